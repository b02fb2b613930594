use Rattle.std.proofs.Common.{◌≡◌, List, ℕ, sym, ◌∙◌, ap}
use Rattle.std.specs.Option.{IsSomeAnd}
use Rattle.ipc_laws.specs.EncodingLaws.{word_once}
use Rattle.ipc_model.specs.declared.entry.Entry.{Entry}
use Rattle.ipc_model.specs.declared.entry.Entry.TheVariants.{Dead}
use Rattle.image.proofs.OneEntry.{rights_alone, send_once_alone, set_alone, dead_alone}
use Rattle.image.proofs.entries.take_entry.Goals as goal

pub returns-in-1-clause-only : goal.returns-in-1-clause-only
returns-in-1-clause-only c =
    rights_alone c.args.bytes.now c.in_ok-kind.kind c.in_ok-kind.rest.now c.in_ok-kind.ensures.found
    (λ (entry : Entry) (rest : List ℕ). IsSomeAnd c.take_rights.result (λ r. (r.0 ≡ entry) × (r.1.now ≡ rest)))
    c.in-1.is c.take_rights.ensures.only

pub returns-in-2-clause-only : goal.returns-in-2-clause-only
returns-in-2-clause-only c =
    send_once_alone c.args.bytes.now c.in_ok-kind.kind c.in_ok-kind.rest.now c.in_ok-kind.ensures.found
    (λ (entry : Entry) (rest : List ℕ). IsSomeAnd c.take_send_once.result (λ r. (r.0 ≡ entry) × (r.1.now ≡ rest)))
    c.in-2.is c.take_send_once.ensures.only

pub returns-in-3-clause-only : goal.returns-in-3-clause-only
returns-in-3-clause-only c =
    set_alone c.args.bytes.now c.in_ok-kind.kind c.in_ok-kind.rest.now c.in_ok-kind.ensures.found c.in-3.is

pub returns-in_ok-references-in-4-clause-only : goal.returns-in_ok-references-in-4-clause-only
returns-in_ok-references-in-4-clause-only c =
    let found = c.in_ok-references-in-4 in
    dead_alone c.args.bytes.now c.in_ok-kind.kind c.in_ok-kind.rest.now c.in_ok-kind.ensures.found c.in-4.is
    (λ (entry : Entry) (rest : List ℕ). (Dead found.references ≡ entry) × (found.rest.now ≡ rest))
    (λ references rest fits is.
    let one =
    word_once found.references references found.rest.now rest found.ensures.fits fits
    (sym found.ensures.found ∙ is) in
    (ap Dead one.0, one.1))
