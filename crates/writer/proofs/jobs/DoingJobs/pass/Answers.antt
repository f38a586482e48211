use Rattle.std.proofs.Common.{Bool, cond, ap, ◌∙◌}
use Rattle.writer.specs.Jobs.{counted}
use Rattle.writer.specs.Passes.{job_of}
use Rattle.writer.proofs.Effects.{job_ran}
use Rattle.writer.proofs.jobs.DoingJobs.pass.Goals as goal

pub returns-then-begun : goal.returns-then-begun
returns-then-begun g c =
    job_ran (g.M.Medium.meaning c.args.medium.now) (g.M.Medium.meaning c.done_by-done.new.medium) (job_of c.args.job) c.args.self.now.counts _
    c.done_by-done.result c.done_by-done.ensures
    (c.add.ensures ∙ ap (λ (t : Bool). cond t (counted (job_of c.args.job) c.args.self.now.counts) c.args.self.now.counts) c.if-begun.ensures)
