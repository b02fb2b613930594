-- How frames are taken.
use Rattle.std.proofs.Common.{◌≡◌, ◌≤◌, ◌+◌, ℕ, Bool, true, false, List, [], ◌∷◌, ◌++◌, length, drop, Option, None, Some, Result, Ok, Err, IfSome, refl, sym, ap, subst, ◌∙◌, arith, append_assoc, length-append}
use Rattle.std.proofs.lemmas.List.{drop_at}
use Rattle.std.specs.Io.KnownBytes.{prepend_known}
use Rattle.calls.specs.declared.request.Request.{Request}
use Rattle.ipc_model.specs.declared.reply.Reply.{Reply}
use Rattle.store_fault.specs.declared.fault.StoreFault.{StoreFault}
use Rattle.frame_service.proofs.Acting.{Taking, one_taken}
use Rattle.frame_service.proofs.Going.{nothing_left}
use Rattle.frame_service.specs.Asking.{Act, Acted, IsTaken, TookFrames, TookNext}
use Rattle.frame_service.specs.declared.asking.PendingFrame.{PendingFrame}
use Rattle.wire.specs.declared.fault.WireFault.{WireFault}
use Rattle.words.specs.WordLaws.{length-word}
use Rattle.words.specs.Words.{frame_encoding, word}

-- a fact for bytes that are known
pub one_known : (o : Option (List ℕ)) (P : List ℕ → Type 0) → ((bytes : List ℕ) → o ≡ Some bytes → P bytes) → IfSome o P
one_known None P f = tt
one_known (Some bytes) P f = f bytes refl

pub at_known : (o : Option (List ℕ)) (bytes : List ℕ) (P : List ℕ → Type 0) → o ≡ Some bytes → IfSome o P → P bytes
at_known o bytes P is holds = subst (λ p. IfSome p P) is holds

-- what is left of what came, once a frame at its front is taken off
behind : (content rest bytes : List ℕ) → bytes ≡ frame_encoding content ++ rest
    → drop (4 + length content) bytes ≡ rest
behind content rest bytes front =
    ap (λ l. drop (4 + length content) l) front ∙ drop_at (frame_encoding content) rest (4 + length content)
    (omega (arith, length-append (word (length content)) content, length-word (length content)))

module _ {C T : Type 0} (answer : T → Reply) (makes : C → Request → T → C → Type 0) (lacks : C → Request → C → Type 0)
    (acknowledges : C → T → C → Type 0) (fails : C → T → StoreFault → C → Type 0) (looks : C → C → Type 0) where
  abbrev Takes : C → C → List (PendingFrame T) → List ℕ → Option (List ℕ) → ℕ → Type 0
  Takes = Taking answer makes lacks acknowledges fails looks

  abbrev Did : C → List (Act T) → List (PendingFrame T) → C → Type 0
  Did old acts all_pending new = Acted answer makes lacks acknowledges fails looks old [] acts all_pending new

  abbrev Took : C → C → List (PendingFrame T) → List ℕ → Option (List ℕ) → Result Bool WireFault → Type 0
  Took = TookFrames answer makes lacks acknowledges fails looks

  abbrev NextTaken : C → List ℕ → Result (Option (PendingFrame T)) WireFault → C → Option (List ℕ) → Type 0
  NextTaken = TookNext answer makes lacks

  -- a frame was taken where it lies
  pub took_in_place : (old new : C) (content rest bytes : List ℕ) (stream : Option (List ℕ)) (pending : PendingFrame T)
      → bytes ≡ frame_encoding content ++ rest → IsTaken answer makes lacks old content pending new
      → IfSome (prepend_known bytes stream) (λ input. NextTaken old input (Ok (Some pending)) new
      (prepend_known (drop (4 + length content) bytes) stream))
  took_in_place old new content rest bytes None pending front taken = tt
  took_in_place old new content rest bytes (Some more) pending front taken = (
    content,
    rest ++ more,
    ap (λ l. l ++ more) front ∙ append_assoc (frame_encoding content) rest more,
    ap (λ l. Some (l ++ more)) (behind content rest bytes front),
    taken,
  )

  -- the next frame can't be read
  pub took_stops : (old mid new : C) (all_pending : List (PendingFrame T)) (input : List ℕ) (left now : Option (List ℕ))
      (count : ℕ) (fault : WireFault) (result : Result Bool WireFault) → Takes old mid all_pending input left count
      → IfSome left (λ rest. NextTaken mid rest (Err fault) new now) → result ≡ Err fault
      → Took old new all_pending input now result
  took_stops old mid new all_pending input left now count fault result so_far next is =
      let unread = at_known left so_far.rest (λ rest. NextTaken mid rest (Err fault) new now) so_far.left_is next in
      subst (λ r. Took old new all_pending input now r) (sym is) (record {
        acts = so_far.acts;
        rest = so_far.rest;
        acted = subst (λ c. Did old so_far.acts all_pending c) (sym unread.1) so_far.acted;
        read = so_far.read;
        silent = so_far.silent;
        some = tt;
        is_read = unread.0;
      })

  -- the input has ended
  pub took_all : (old mid new : C) (all_pending : List (PendingFrame T)) (input : List ℕ) (left now : Option (List ℕ))
      (count : ℕ) → Takes old mid all_pending input left count
      → IfSome left (λ rest. NextTaken mid rest (Ok None) new now) → Took old new all_pending input now (Ok false)
  took_all old mid new all_pending input left now count so_far next =
      let over = at_known left so_far.rest (λ rest. NextTaken mid rest (Ok None) new now) so_far.left_is next in
      record {
        acts = so_far.acts;
        rest = so_far.rest;
        acted = subst (λ c. Did old so_far.acts all_pending c) (sym over.1) so_far.acted;
        read = so_far.read;
        silent = so_far.silent;
        some = tt;
        is_read = (nothing_left so_far.rest over.0.0, over.0.1);
      }

  -- one more frame was taken
  pub took_one : (old mid new : C) (all_pending more : List (PendingFrame T)) (pending : PendingFrame T)
      (input : List ℕ) (left now : Option (List ℕ)) (count : ℕ) → Takes old mid all_pending input left count
      → IfSome left (λ rest. NextTaken mid rest (Ok (Some pending)) new now) → more ≡ all_pending ++ pending ∷ []
      → Takes old new more input now (count + 1)
  took_one old mid new all_pending more pending input left now count so_far next pushed =
      let taken =
      at_known left so_far.rest (λ rest. NextTaken mid rest (Ok (Some pending)) new now) so_far.left_is next in
      one_taken answer makes lacks acknowledges fails looks old mid new all_pending more pending input taken.0 taken.1 left
      now count so_far taken.2 taken.3 taken.4 pushed

  pub took_some : (old mid : C) (all_pending : List (PendingFrame T)) (input : List ℕ) (left : Option (List ℕ))
      (count : ℕ) → Takes old mid all_pending input left count → 1 ≤ count
      → Took old mid all_pending input left (Ok true)
  took_some old mid all_pending input left count so_far some =
      record {
        acts = so_far.acts;
        rest = so_far.rest;
        acted = so_far.acted;
        read = so_far.read;
        silent = so_far.silent;
        some = omega (arith, some, so_far.counted);
        is_read = so_far.left_is;
      }
