use Rattle.std.proofs.Common.{Result, Ok, Err, OnErr, sym, ◌∙◌, ap}
use Rattle.std.specs.FinMap as map
use Rattle.number_map.proofs.Viewed.{get_viewed, inserted}
use Rattle.number_map.proofs.NumberMap.insert.Goals as goal

for_err : {A B P : Type 0} (r : Result A B) → P → OnErr r P
for_err (Ok x) p = tt
for_err (Err e) p = p

pub returns-in_err-insert-clause-absent : goal.returns-in_err-insert-clause-absent
returns-in_err-insert-clause-absent g c =
    for_err c.from_residual.result
    (sym (ap (λ m. map.get m c.args.key) c.self.view_is) ∙ get_viewed c.self.inside.entries.entries c.args.key
    ∙ c.in_err-insert.ensures.absent)

pub returns-clause-before : goal.returns-clause-before
returns-clause-before g c =
    c.in_ok-insert.ensures.old ∙ sym (get_viewed c.self.inside.entries.entries c.args.key) ∙ ap
    (λ m. map.get m c.args.key) c.self.view_is

pub returns-clause-ok : goal.returns-clause-ok
returns-clause-ok g c =
    inserted c.self.inside.entries.entries c.insert.new.self.entries c.args.key c.args.value
    c.in_ok-insert.ensures.updates.0 ∙ ap (λ m. map.insert m c.args.key c.args.value) c.self.view_is
