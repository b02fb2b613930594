use Rattle.std.proofs.Common.{ℕ, List, [], ◌+◌, ◌∷◌, ◌++◌, sym, ◌∙◌, ap, subst, arith}
use Rattle.kernel.specs.Copying.{gathered_none, space_more, spaces_all, AreGathered}
use Rattle.snapshot.specs.Rows.{space_row}
use Rattle.snapshot.specs.declared.rows.NamedEntry.{NamedEntry}
use Rattle.snapshot.specs.declared.rows.Space.{Space}
use Rattle.kernel.proofs.copying.spaces_of.Goals as goal

pub loop-number-init : goal.loop-number-init
loop-number-init c = record {
  gathered =
      gathered_none space_row c.args.state.now.current.spaces c.new-spaces.result.items c.new-spaces.ensures.items;
  fits = omega arith;
}

pub loop-number-preserved : goal.loop-number-preserved
loop-number-preserved c =
    let state = c.args.state.now.current in
    let before = c.loop-number.spaces.items in
    let row : List NamedEntry → List Space = λ names. record { number = c.in-Some.number; names = names } ∷ [] in
    record {
      gathered =
          subst (λ (n : ℕ). AreGathered space_row state.spaces c.push.new.self.items (n + 1)) (sym c.from-at.ensures)
          (space_more space_row state before c.push.new.self.items c.loop-number.at c.in-Some.number c.in-Some.ensures.0
          c.in-Some.ensures.1 c.in-Some.ensures.2
          (c.in_ok-push.ensures.items ∙ ap
          (λ (names : List NamedEntry). before ++ row names) (c.new.ensures ∙ c.in_ok-names.ensures))
          c.loop-number.invariant.gathered);
      fits = omega (arith, c.from-at.ensures);
    }

pub returns : goal.returns
returns c =
    spaces_all space_row c.args.state.now.current c.loop-number.spaces.items c.loop-number.at c.requires
    c.in_default.ensures c.loop-number.invariant.gathered
