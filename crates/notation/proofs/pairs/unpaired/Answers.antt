use Rattle.notation.proofs.Decoded.{pairs_decoded, refused}
use Rattle.notation.proofs.pairs.unpaired.Goals as goal

pub returns-in_err-decode-clause-refused : goal.returns-in_err-decode-clause-refused
returns-in_err-decode-clause-refused c =
    refused c.from_residual.result c.args.digits.now c.in_err-decode.field-0.0 c.from_residual.ensures.1 c.in_err-decode.ensures.err

pub returns-clause-made : goal.returns-clause-made
returns-clause-made c = pairs_decoded c.args.digits.now c.in_ok-decode.field-0.items c.in_ok-decode.ensures.ok
