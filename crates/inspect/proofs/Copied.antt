-- The contents of a copy's disk.
use Rattle.std.proofs.Common.{◌≡◌, inl, ℕ, List, [], Result, Ok, Err, refl, sym, ap, subst, ◌∙◌, arith}
use Rattle.std.specs.Prelude.{OnOk}
use Rattle.disk.specs.Moments.{View}
use Rattle.disk.specs.Slots.{Slots, empty_slots}
use Rattle.checkpoint.specs.Images.{ImageValue, open_image, unwritten}
use Rattle.inspect.specs.Copied.{CopiesInto, IsCopyOf, IsImageOfRows, IsPartOf, of_list, store_of}
use Rattle.inspect.specs.declared.copying.CopyStoreFault.{CopyStoreFault}
use Rattle.inspect.specs.declared.copying.CopyStoreFault.TheVariants as copied
use Rattle.inspect.specs.declared.fault.ListFault.{ListFault}
use Rattle.inspect.specs.declared.fault.ListFault.TheVariants as list
use Rattle.ipc_laws.specs.RecoveryLaws.{recovers_lawful}
use Rattle.ipc_model.specs.state.LawfulState.{LawfulState}
use Rattle.ipc_model.specs.state.State.{State}
use Rattle.ipc_model.specs.store.Recovery.{HoldsImage}
use Rattle.ipc_model.specs.encodings.Images.{image_encoding}
use Rattle.store_fault.specs.declared.fault.StoreFault.{StoreFault}
use Rattle.store_fault.specs.declared.fault.StoreFault.TheVariants as fault
use Rattle.recover.proofs.Gates.{empty_has_gate}
use Rattle.recover.proofs.Stages.{empty_encodes, one_stands}
use Rattle.recover.specs.AtRest.{IsAtRest}
use Rattle.recover.specs.Found.{Reads}
use Rattle.recover.specs.Looked.{IsLook}
use Rattle.recover.specs.Making.{empty_segment}
use Rattle.recover.specs.declared.looking.Looked.{Looked}
use Rattle.kernel.specs.Restoring.{one_snapshot}
use Rattle.store_layout.specs.Gates.{StandForState}
use Rattle.store_layout.specs.Standing.{InOne, as_written}

-- the store's fault in a fault of copying
abbrev store_in : CopyStoreFault → StoreFault
store_in (copied.Store fault) = fault
store_in copied.Busy = fault.Damaged
store_in copied.Exists = fault.Damaged
store_in copied.Write = fault.Damaged

store_of_list : (fault : ListFault) (reported : StoreFault) → of_list fault ≡ copied.Store reported
    → fault ≡ list.Store reported
store_of_list (list.Store f) reported is = ap (λ (k : StoreFault). list.Store k) (ap store_in is)
store_of_list list.Busy reported is = absurd (cc is)
store_of_list list.Write reported is = absurd (cc is)

abbrev error_in : Result (Unit {0}) CopyStoreFault → CopyStoreFault
error_in (Ok done) = copied.Busy
error_in (Err fault) = fault

pub reported_of_list : (fault : ListFault) (reported : StoreFault) (given : CopyStoreFault)
    (result : Result (Unit {0}) CopyStoreFault) → result ≡ Err given → given ≡ of_list fault
    → result ≡ Err (copied.Store reported) → fault ≡ list.Store reported
reported_of_list fault reported given result is of same =
    store_of_list fault reported (sym of ∙ ap error_in (sym is ∙ same))

copy_stands : (state : State) → HoldsImage 0 (open_image 0 (image_encoding state)) state
    → StandForState state (store_of (unwritten 0 (image_encoding state)))
copy_stands state holds =
    let slots : Slots = store_of (unwritten 0 (image_encoding state)) in
    let one : InOne slots 0 state [] = record {
      fits = omega arith;
      image = holds;
      segment = empty_encodes 0 (empty_segment 0) refl;
      other_image = inl (λ is_open. absurd (omega (arith, is_open.0)));
      other_segment = inl (λ is_open. absurd (omega (arith, is_open.0)));
    } in
    one_stands slots 0 state state [] one refl (empty_has_gate 0 (empty_segment 0) refl)

-- the state that is read from slots is lawful
lawful_read : (slots : Slots) (epoch records : ℕ) (state : State) → Reads slots epoch records state
    → LawfulState state
lawful_read slots epoch records state reads =
    (recovers_lawful (as_written slots) state
    (record { base = reads.base; records = reads.records; encoded = reads.encoded; run = reads.run })).0

pub is_copy : (honest : Type 0) (slots : Slots) (look : Looked) (image : ImageValue) (new : View) → honest
    → IsLook honest slots look → IsImageOfRows look.snapshot image → new.seen ≡ store_of image → IsAtRest new
    → IsCopyOf slots new
is_copy honest slots look image new given looked imaged made rest =
    let same : imaged.state ≡ looked.state = one_snapshot imaged.state looked.state imaged.holds.lawful
    (lawful_read slots look.epoch look.records looked.state (looked.reads given)) (sym imaged.same ∙ looked.rows) in
    record {
      state = looked.state;
      epoch = look.epoch;
      records = look.records;
      reads = looked.reads given;
      stands =
          subst (λ s. StandForState s new.seen) same
          (subst (StandForState imaged.state) (sym (made ∙ ap store_of imaged.is))
          (copy_stands imaged.state imaged.holds));
      at_rest = rest;
    }

-- a store that was copied to the disk of a folder
pub copies_into : {D : Type 0} (is_read honest : Type 0) (slots : Slots) (view : D → View) (path_of : D → List ℕ)
    (path : List ℕ) (before after : D) (r : Result (Unit {0}) CopyStoreFault) → path_of before ≡ path
    → (is_read → honest → (view before).seen ≡ empty_slots → OnOk r (IsCopyOf slots (view after)))
    → OnOk r (CopiesInto is_read honest slots view path_of path)
copies_into is_read honest slots view path_of path before after (Ok done) there copied =
    record { before = before; after = after; is_there = there; copied = copied }
copies_into is_read honest slots view path_of path before after (Err fault) there copied = tt

-- the same, under the path of a copy's part
pub copies_part : (r : Result (Unit {0}) CopyStoreFault) (path part : List ℕ) (P : List ℕ → Type 0) → IsPartOf path part
    → OnOk r (P part) → OnOk r ((name : List ℕ) × IsPartOf path name × P name)
copies_part (Ok done) path part P is copied = (part, is, copied)
copies_part (Err fault) path part P is copied = tt
