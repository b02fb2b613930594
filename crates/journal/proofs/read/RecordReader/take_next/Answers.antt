use Rattle.std.proofs.Common.{◌+◌, ◌-◌, length, refl, sym, subst, ap, arith}
use Rattle.std.proofs.lemmas.Result.{err_from_is_err_and}
use Rattle.journal.specs.Reading.{Place, Leads, IsLast, IsNothing}
use Rattle.journal.specs.Readers.{ReaderValue, place_of}
use Rattle.journal.specs.Windows.{IsOver, IsFull}
use Rattle.journal.proofs.Pieces.{window_on}
use Rattle.journal.proofs.Steps.{taken, last, no_batch_at, no_record_at}
use Rattle.journal.proofs.read.RecordReader.take_next.Goals as goal

-- the bytes neither continue nor begin a batch
pub returns-in_err-left-clause-damaged : goal.returns-in_err-left-clause-damaged
returns-in_err-left-clause-damaged c = λ reported bytes over full.
    let inside = c.self.inside in
    let place : Place =
    record { at = inside.window.at; number = inside.number; left = inside.left; size = inside.size } in
    subst (λ (r : ReaderValue). IsNothing bytes (place_of r)) c.self.view_is
    (no_batch_at bytes c.front-front.result.now inside.window place
    (subst (λ (r : ReaderValue). IsOver bytes r.window) (sym c.self.view_is) over)
    (subst (λ (r : ReaderValue). IsFull r.window) (sym c.self.view_is) full)
    refl c.front-front.ensures c.in_err-left.ensures.no_batch c.in_err-left.ensures.no_end)

pub returns-in_default-clause-last : goal.returns-in_default-clause-last
returns-in_default-clause-last c = λ bytes over full.
    let inside = c.self.inside in
    let place : Place =
    record { at = inside.window.at; number = inside.number; left = inside.left; size = inside.size } in
    subst (λ (r : ReaderValue). IsLast bytes (place_of r)) c.self.view_is
    (last bytes c.front-front.result.now inside.window place
    (subst (λ (r : ReaderValue). IsOver bytes r.window) (sym c.self.view_is) over)
    (subst (λ (r : ReaderValue). IsFull r.window) (sym c.self.view_is) full)
    refl c.front-front.ensures c.self.invariant (rw c.in_default.is at c.in_ok-left.ensures.ended))

-- the bytes contain no record with the next number
pub returns-in_err-entry-clause-damaged : goal.returns-in_err-entry-clause-damaged
returns-in_err-entry-clause-damaged c = λ reported bytes over full.
    let inside = c.self.inside in
    let place : Place =
    record { at = inside.window.at; number = inside.number; left = inside.left; size = inside.size } in
    let p = err_from_is_err_and c.from_residual-in_err-entry.result c.from_residual-in_err-entry.ensures.1 in
    subst (λ (r : ReaderValue). IsNothing bytes (place_of r)) c.self.view_is
    (no_record_at bytes c.front-front.result.now inside.window place c.in-Some.left c.in-Some.size c.in-Some.content.now
    (subst (λ (r : ReaderValue). IsOver bytes r.window) (sym c.self.view_is) over)
    (subst (λ (r : ReaderValue). IsFull r.window) (sym c.self.view_is) full)
    refl c.front-front.ensures (rw c.in-Some.is at c.in_ok-left.ensures.found)
    (c.in_err-entry.ensures.damaged (cc (p.1, p.2, reported))))

pub returns-clause-leads : goal.returns-clause-leads
returns-clause-leads c = λ bytes over full.
    let inside = c.self.inside in
    let place : Place =
    record { at = inside.window.at; number = inside.number; left = inside.left; size = inside.size } in
    let new : Place = record {
      at = c.pass.new.self.at;
      number = inside.number + 1;
      left = c.in-Some.left - 1;
      size = c.in-Some.size - (length c.in-Some.content.now - length c.in_ok-entry.beyond.now);
    } in
    subst (λ (r : ReaderValue). Leads bytes (place_of r) c.in_ok-entry.entry new) c.self.view_is
    (taken bytes c.front-front.result.now inside.window place new c.in-Some.left c.in-Some.size c.in-Some.content.now
    c.in_ok-entry.beyond.now c.in_ok-entry.entry
    (subst (λ (r : ReaderValue). IsOver bytes r.window) (sym c.self.view_is) over)
    (subst (λ (r : ReaderValue). IsFull r.window) (sym c.self.view_is) full)
    refl c.front-front.ensures (rw c.in-Some.is at c.in_ok-left.ensures.found) c.in_ok-entry.ensures.found
    c.in_ok-entry.ensures.fits.0 c.in_ok-entry.ensures.fits.1 c.in_ok-entry.ensures.within
    c.pass.ensures.at refl refl refl)

pub returns-clause-over : goal.returns-clause-over
returns-clause-over c = λ bytes over.
    window_on bytes c.self.inside.window c.pass.new.self
    (length c.front-front.result.now - length c.in_ok-entry.beyond.now)
    (subst (λ (r : ReaderValue). IsOver bytes r.window) (sym c.self.view_is) over)
    (omega (arith, ap length c.front-front.ensures)) c.pass.ensures.at c.pass.ensures.front c.pass.ensures.others.1
    c.pass.ensures.others.2
