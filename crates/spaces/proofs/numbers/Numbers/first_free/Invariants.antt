use Rattle.std.proofs.Common.{◌≡◌, ℕ, ◌<◌, ◌*◌}
use Rattle.spaces.specs.Numbers.{place_at}
use Rattle.spaces.proofs.numbers.Numbers.first_free.Given as goal

abbrev pub invariant-loop-word : goal.invariant-loop-word
invariant-loop-word l = record {
  before : l.before ≡ 64 * l.word-index;
  taken : (k : ℕ) → k < 64 * l.word-index → place_at l.self k ≡ 1;
}
