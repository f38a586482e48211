use Rattle.std.proofs.Common.{ℕ, length, replicate, sym, ap, ◌∙◌}
use Rattle.std.proofs.lemmas.List.{length-replicate}
use Rattle.std.specs.List.{list_any, zip}
use Rattle.writer.specs.Source.{bytes_of}
use Rattle.writer.specs.declared.source.Source.{Source}
use Rattle.writer.proofs.Rises.{rises_all, rises_pair, rises_pairs}
use Rattle.writer.proofs.source.Source.rises_over.Goals as goal

pub returns-in-Bytes : goal.returns-in-Bytes
returns-in-Bytes c =
    let under = c.args.under.now in
    c.rises_in.ensures
    ∙ (ap (λ (s : Source). list_any rises_pair (zip under (bytes_of s))) (sym c.in-Bytes.is) ∙ rises_pairs under (bytes_of c.args.self) c.requires)

pub returns-in-Fill : goal.returns-in-Fill
returns-in-Fill c =
    let under = c.args.under.now in
    let y = c.in-Fill.byte in
    let n = c.in-Fill.length in
    let e = sym (length-replicate n y) ∙ (sym (ap (λ (s : Source). length (bytes_of s)) c.in-Fill.is) ∙ c.requires) in
    c.rises_to.ensures
    ∙ (rises_all under y
    ∙ (ap (λ (k : ℕ). list_any rises_pair (zip under (replicate k y))) (sym e)
    ∙ (ap (λ (s : Source). list_any rises_pair (zip under (bytes_of s))) (sym c.in-Fill.is) ∙ rises_pairs under (bytes_of c.args.self) c.requires)))
