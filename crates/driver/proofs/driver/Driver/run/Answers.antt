use Rattle.std.proofs.Common.{sym, subst}
use Rattle.driver.specs.Steps.{Ran, job_of}
use Rattle.driver.proofs.Runs.{Follows, arms, armed_on, begun_on, even_status_mode, follows_of, odd_status_mode, ran_from}
use Rattle.driver.proofs.driver.Driver.run.Goals as goal

pub send-requires-2 : goal.send-requires-2
send-requires-2 g c =
    armed_on _ (job_of c.args.job) (g.S.Slot.state c.args.self.now.slot) _ c.requires.on c.requires.off _ c.settle.ensures _ c.command.ensures _ _ c.send.ensures

pub poll-requires : goal.poll-requires
poll-requires g c =
    let s = g.S.Slot.state c.args.self.now.slot in
    let sound = g.met.S.Slot.sound c.args.self.now.slot in
    let j = job_of c.args.job in
    let f = subst (Follows j) (sym c.follow.ensures) (follows_of c.args.job) in
    let a = arms _ j s _ c.requires.on c.requires.off _ c.settle.ensures _ c.command.ensures _ _ c.send.ensures in
    record {
      on = begun_on _ j s _ _ sound c.requires.on c.requires.off f _ a _ _ c.send-2.ensures;
      even = even_status_mode _ j s _ _ sound c.requires.on c.requires.off f _ a _ _ c.send-2.ensures;
      odd = odd_status_mode _ j s _ _ sound c.requires.on c.requires.off f _ a _ _ c.send-2.ensures;
    }

pub returns : goal.returns
returns g c =
    let s = g.S.Slot.state c.args.self.now.slot in
    let sound = g.met.S.Slot.sound c.args.self.now.slot in
    let j = job_of c.args.job in
    let f = subst (Follows j) (sym c.follow.ensures) (follows_of c.args.job) in
    let a = arms _ j s _ c.requires.on c.requires.off _ c.settle.ensures _ c.command.ensures _ _ c.send.ensures in
    subst (λ v. Ran g.S.Slot.patience j s c.args.place v c.judge.result (g.S.Slot.state c.poll.new.self.slot)) c.follow.ensures
    (ran_from _ j s _ _ sound c.requires.on c.requires.off f _ a _ _ c.send-2.ensures _ _ _ _ c.poll.ensures c.judge.ensures)
