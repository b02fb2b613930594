use Rattle.std.proofs.Common.{ℕ, sym, subst}
use Rattle.std.proofs.lemmas.Result.{err_from_is_err_and}
use Rattle.disk.specs.Slots.{slot_of}
use Rattle.journal.specs.Readers.{ReaderValue, place_of}
use Rattle.journal.specs.Reading.{IsNothing}
use Rattle.journal.specs.Windows.{IsOver}
use Rattle.journal.proofs.read.RecordReader.next.Goals as goal

pub returns-in_err-found-clause-damaged : goal.returns-in_err-found-clause-damaged
returns-in_err-found-clause-damaged g c = λ honest reported.
    let p = err_from_is_err_and c.from_residual-in_err-found.result c.from_residual-in_err-found.ensures.1 in
    let inside = c.self.inside in
    let seen = (g.D.Disk.view c.args.disk.now).seen in
    let bytes = slot_of seen inside.window.slot in
    let over =
    subst (λ (r : ReaderValue). IsOver (slot_of seen r.window.slot) r.window) (sym c.self.view_is)
    (c.requires honest) in
    let full = c.in_ok-fill.ensures.shown honest over in
    let none = c.in_err-found.ensures.damaged (cc (p.1, p.2, reported)) bytes full.0 full.1 in
    subst (λ (r : ReaderValue). IsNothing (slot_of seen r.window.slot) (place_of r)) c.self.view_is
    (subst (λ (at : ℕ). IsNothing bytes
    (record { at = at; number = inside.number; left = inside.left; size = inside.size }))
    c.in_ok-fill.ensures.place.1 none)
