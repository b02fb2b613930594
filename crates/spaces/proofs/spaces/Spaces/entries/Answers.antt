use Rattle.std.proofs.Common.{ℕ, ◌+◌, List, [], ◌∷◌, ◌++◌, append_assoc, append-nil, ap, sym, ◌∙◌, arith}
use Rattle.ipc_model.specs.declared.entry.Entry.{Entry}
use Rattle.port_space.specs.Walking.{entries_from, from_first, from_next, from_end}
use Rattle.spaces.specs.Reading.{names_of}
use Rattle.spaces.proofs.spaces.Spaces.entries.Goals as goal

abbrev Items : Type 0
Items = List (ℕ × Entry)

pub loop-name-init : goal.loop-name-init
loop-name-init c = record {
  gathered =
      ap (λ (xs : Items). xs ++ entries_from (names_of c.args.self.now.current c.args.space) 0)
      c.new-entries.ensures.items ∙ from_first (names_of c.args.self.now.current c.args.space);
  fits = omega arith;
}

pub loop-name-preserved : goal.loop-name-preserved
loop-name-preserved c =
    let names = names_of c.args.self.now.current c.args.space in
    let next = c.in-Some.ensures.next in
    record {
      gathered =
          ap (λ (xs : Items). xs ++ entries_from names (c.from-at.result + 1)) c.in_ok-push.ensures.items
          ∙ append_assoc c.loop-name.entries.items ((c.in-Some.name, c.in-Some.entry) ∷ [])
          (entries_from names (c.from-at.result + 1))
          ∙ ap (λ (n : ℕ). c.loop-name.entries.items
          ++ ((c.in-Some.name, c.in-Some.entry) ∷ entries_from names (n + 1))) c.from-at.ensures
          ∙ ap (λ (xs : Items). c.loop-name.entries.items ++ xs)
          (sym (from_next names c.loop-name.at c.in-Some.name c.in-Some.entry next.0 next.1 next.2))
          ∙ c.loop-name.invariant.gathered;
      fits = omega (arith, c.from-at.ensures, c.in-Some.ensures.fits);
    }

pub returns : goal.returns
returns c =
    let names = names_of c.args.self.now.current c.args.space in
    sym (append-nil c.loop-name.entries.items) ∙ ap
    (λ (xs : Items). c.loop-name.entries.items ++ xs)
    (sym (from_end names c.loop-name.at c.in_default.ensures.next)) ∙ c.loop-name.invariant.gathered
