use Rattle.std.proofs.Common.{ℕ, w64, ap, ◌∙◌, arith, rules}
use Rattle.std.specs.Int.{bit_at}
use Rattle.std.proofs.lemmas.Nat.Bits.{bit_at-trailing_ones, bit_at_ones}
use Rattle.spaces.proofs.numbers.first_clear.Goals as goal

pub returns-then-word-eq18446744073709551615 : goal.returns-then-word-eq18446744073709551615
returns-then-word-eq18446744073709551615 c =
    λ i less. ap (λ (w : ℕ). bit_at w i) c.if-word-eq18446744073709551615.true ∙ bit_at_ones 64 i less

pub returns-else-word-eq18446744073709551615 : goal.returns-else-word-eq18446744073709551615
returns-else-word-eq18446744073709551615 c = search (rules, bit_at-trailing_ones w64 c.args.word (omega arith))
