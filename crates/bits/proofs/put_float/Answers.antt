-- `bits::put_float` meets its contract, by those of its two calls. Assumes nothing.
use Rattle.std.proofs.Common.{ap, ◌∙◌}
use Rattle.rules.specs.Bytes.{bytes_of, float_bytes}
use Rattle.lemmas.specs.Spliced.{spliced}
use Rattle.bits.proofs.put_float.Goals as goal

pub returns : goal.returns
unfolding float_bytes
returns c =
    c.put_number.ensures ∙ ap (λ n. spliced c.args.at (bytes_of 8 n) c.args.out.now) c.pattern_of.ensures
