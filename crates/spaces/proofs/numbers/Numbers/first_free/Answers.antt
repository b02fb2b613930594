use Rattle.std.proofs.Common.{ℕ, ◌+◌, refl, ap, arith}
use Rattle.spaces.specs.Numbers.{found_free, word_taken}
use Rattle.spaces.proofs.numbers.Numbers.first_free.Goals as goal

pub returns-in-Some : goal.returns-in-Some
returns-in-Some c =
    found_free c.args.self.now c.loop-word.word-index _ c.in-Some.bit _ c.loop-word-test.true refl
    (ap (λ (n : ℕ). n + c.in-Some.bit) c.loop-word.invariant.before) c.in-Some.ensures c.loop-word.invariant.taken

pub loop-word-preserved : goal.loop-word-preserved
loop-word-preserved c = record {
  before = omega (arith, c.loop-word.invariant.before);
  taken =
      λ k less. word_taken c.args.self.now c.loop-word.word-index _ k refl c.in_default.ensures
      c.loop-word.invariant.taken (omega (arith, less));
}
