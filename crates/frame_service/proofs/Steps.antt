-- How a conversation goes on, step by step, and how it ends.
use Rattle.std.proofs.Common.{◌≡◌, inl, inr, List, [], ◌∷◌, ◌++◌, ℕ, Bool, true, false, Option, None, Some, IfSome, Result, Ok, Err, refl, sym, ap, subst, ◌∙◌}
use Rattle.std.proofs.lemmas.List.{append-nil}
use Rattle.std.specs.Io.KnownBytes.{Appends, Keeps}
use Rattle.calls.specs.declared.request.Request.{Request}
use Rattle.ipc_model.specs.declared.reply.Reply.{Reply}
use Rattle.ipc_model.specs.encodings.Encodings.{reply_encoding}
use Rattle.store_fault.specs.declared.fault.StoreFault.{StoreFault}
use Rattle.frame_service.proofs.Acting.{begun, one_acknowledged, one_looked, one_tried, went_both}
use Rattle.frame_service.proofs.Going.{appends_is, keeps_is}
use Rattle.frame_service.specs.Asking.{EndsAsked, GoesOn, IsGiven, IsLeft, StandsAt, TookFrames, Went}
use Rattle.frame_service.proofs.Turns.{at_known}
use Rattle.frame_service.specs.Conversing.{IsRetried, Tells, end_of, fault_of}
use Rattle.frame_service.specs.declared.asking.PendingFrame.{PendingFrame}
use Rattle.frame_service.specs.declared.asking.PendingFrame.TheVariants.{Settled, Waits}
use Rattle.frame_service.specs.declared.asking.Ready.{Ready}
use Rattle.frame_service.specs.declared.service.ServeFault.{ServeFault}
use Rattle.frame_service.specs.declared.service.ServeFault.TheVariants.{Wire, Store}
use Rattle.wire.specs.Frame.{IsReadOf}
use Rattle.wire.specs.Writing.{AppendsPart}
use Rattle.wire.specs.declared.fault.WireFault.{WireFault}
use Rattle.wire.specs.declared.fault.WireFault.TheVariants.{Device, Short, TooLong, NoMemory}
use Rattle.words.specs.Words.{frame_encoding}

-- what a frame that can't be read leaves is known
known_left : (rest : List ℕ) (fault : WireFault) (left : Option (List ℕ)) → IsReadOf rest (Err fault) left
    → (unread : List ℕ) × (left ≡ Some unread)
known_left rest Short left (beyond, front, is) = (beyond, is)
known_left rest TooLong left (beyond, front, is) = (beyond, is)
known_left rest Device None (taken, consumed, within) = absurd consumed
known_left rest Device (Some unread) consumed = (unread, refl)
known_left rest NoMemory left (long, limits, is) = (_, is)

module _ {C T : Type 0} (answer : T → Reply) (makes : C → Request → T → C → Type 0) (lacks : C → Request → C → Type 0)
    (acknowledges : C → T → C → Type 0) (fails : C → T → StoreFault → C → Type 0) (looks : C → C → Type 0) where
  abbrev Goes : C → List ℕ → List ℕ → C → List (PendingFrame T) → Option (Result (Unit {0}) WireFault)
      → Option (List ℕ) → Option (List ℕ) → Type 0
  Goes = GoesOn answer makes lacks acknowledges fails looks

  abbrev Ends : C → List ℕ → List ℕ → C → Option (List ℕ) → Option (List ℕ) → Result (Unit {0}) ServeFault → Type 0
  Ends = EndsAsked answer makes lacks acknowledges fails looks

  pub begins : (start : C) (input before : List ℕ) (all_pending : List (PendingFrame T))
      (left written : Option (List ℕ)) → all_pending ≡ [] → left ≡ Some input → written ≡ Some before
      → Goes start input before start all_pending None left written
  begins start input before all_pending left written none read out =
      subst (λ q. Goes start input before start q None left written) (sym none) (record {
        rest = input;
        unread = input;
        sent = before;
        went = begun answer makes lacks acknowledges fails looks start [] input before;
        stands = refl;
        left_is = read;
        written_is = out;
      })

  -- nothing was taken or answered
  pub stays : (start : C) (input before : List ℕ) (now : C) (all_pending : List (PendingFrame T))
      (input_end : Option (Result (Unit {0}) WireFault)) (left written after out : Option (List ℕ))
      → Keeps left after → Keeps written out → Goes start input before now all_pending input_end left written
      → Goes start input before now all_pending input_end after out
  stays start input before now all_pending input_end left written after out kept same so_far = record {
    rest = so_far.rest;
    unread = so_far.unread;
    sent = so_far.sent;
    went = so_far.went;
    stands = so_far.stands;
    left_is = keeps_is so_far.unread left after so_far.left_is kept;
    written_is = keeps_is so_far.sent written out so_far.written_is same;
  }

  -- frames were taken
  pub took : (start : C) (input before : List ℕ) (mid new : C) (none all_pending : List (PendingFrame T))
      (input_end now : Option (Result (Unit {0}) WireFault)) (left written after : Option (List ℕ))
      (result : Result Bool WireFault) → none ≡ [] → input_end ≡ None → now ≡ end_of result
      → IfSome left (λ bytes. TookFrames answer makes lacks acknowledges fails looks mid new all_pending bytes after
      result)
      → Goes start input before mid none input_end left written
      → Goes start input before new all_pending now after written
  took start input before mid new none all_pending input_end now left written after result no_frame more now_is taking
      before_it =
      subst (λ e. Goes start input before new all_pending e after written) (sym now_is) (by result (at_known left so_far.unread
      (λ bytes. TookFrames answer makes lacks acknowledges fails looks mid new all_pending bytes after result) so_far.left_is
      taking))
    where
      so_far : Goes start input before mid [] None left written
      so_far =
          subst (λ q. Goes start input before mid q None left written) no_frame
          (subst (λ e. Goes start input before mid none e left written) more before_it)

      further : (r : Result Bool WireFault)
          (taken : TookFrames answer makes lacks acknowledges fails looks mid new all_pending so_far.unread after r)
          → Went answer makes lacks acknowledges fails looks start [] new input before taken.rest so_far.sent
          all_pending
      further r taken =
          went_both answer makes lacks acknowledges fails looks start mid new [] [] all_pending input before so_far.unread
          so_far.sent taken.rest so_far.sent
          (subst (λ l. Went answer makes lacks acknowledges fails looks start [] mid input before l so_far.sent [])
          (sym so_far.stands) so_far.went)
          (record {
            acts = taken.acts;
            acted = taken.acted;
            read = taken.read;
            acknowledged_is = sym (ap (λ l. so_far.sent ++ l) taken.silent ∙ append-nil so_far.sent);
          })

      by : (r : Result Bool WireFault)
          → TookFrames answer makes lacks acknowledges fails looks mid new all_pending so_far.unread after r
          → Goes start input before new all_pending (end_of r) after written
      by (Ok true) taken = record {
        rest = taken.rest;
        unread = taken.rest;
        sent = so_far.sent;
        went = further (Ok true) taken;
        stands = refl;
        left_is = taken.is_read;
        written_is = so_far.written_is;
      }
      by (Ok false) taken = record {
        rest = taken.rest;
        unread = [];
        sent = so_far.sent;
        went = further (Ok false) taken;
        stands = (taken.is_read.0, refl);
        left_is = taken.is_read.1;
        written_is = so_far.written_is;
      }
      by (Err fault) taken =
          let known = known_left taken.rest fault after taken.is_read in
          record {
            rest = taken.rest;
            unread = known.0;
            sent = so_far.sent;
            went = further (Err fault) taken;
            stands = subst (λ l. IsReadOf taken.rest (Err fault) l) known.1 taken.is_read;
            left_is = known.1;
            written_is = so_far.written_is;
          }

  -- the first frame in hand was tried again, if it waited
  pub tries : (start : C) (input before : List ℕ) (mid new : C) (first pending : PendingFrame T)
      (old_pending more new_pending : List (PendingFrame T)) (input_end : Option (Result (Unit {0}) WireFault))
      (left written : Option (List ℕ)) → old_pending ≡ first ∷ more → new_pending ≡ pending ∷ more
      → IsRetried answer makes lacks mid first pending new
      → Goes start input before mid old_pending input_end left written
      → Goes start input before new new_pending input_end left written
  tries start input before mid new first pending old_pending more new_pending input_end left written old_is new_is retried
      before_it =
      subst (λ q. Goes start input before new q input_end left written) (sym new_is)
      (by first retried (subst (λ q. Goes start input before mid q input_end left written) old_is before_it))
    where
      by : (p : PendingFrame T) → IsRetried answer makes lacks mid p pending new
          → Goes start input before mid (p ∷ more) input_end left written
          → Goes start input before new (pending ∷ more) input_end left written
      by (Settled ready) (same, is) so_far =
          subst (λ c. Goes start input before c (pending ∷ more) input_end left written) (sym is)
          (subst (λ q. Goes start input before mid (q ∷ more) input_end left written) (sym same) so_far)
      by (Waits message) proceeds so_far = record {
        rest = so_far.rest;
        unread = so_far.unread;
        sent = so_far.sent;
        went =
            went_both answer makes lacks acknowledges fails looks start mid new [] (Waits message ∷ more) (pending ∷ more)
            input before so_far.rest so_far.sent so_far.rest so_far.sent so_far.went
            (one_tried answer makes lacks acknowledges fails looks mid new (Waits message) pending more so_far.rest
            so_far.sent proceeds);
        stands = so_far.stands;
        left_is = so_far.left_is;
        written_is = so_far.written_is;
      }

  -- the caller learned what others did
  pub looks_on : (start : C) (input before : List ℕ) (mid new : C) (all_pending : List (PendingFrame T))
      (input_end : Option (Result (Unit {0}) WireFault)) (left written : Option (List ℕ)) → looks mid new
      → Goes start input before mid all_pending input_end left written
      → Goes start input before new all_pending input_end left written
  looks_on start input before mid new all_pending input_end left written is so_far = record {
    rest = so_far.rest;
    unread = so_far.unread;
    sent = so_far.sent;
    went =
        went_both answer makes lacks acknowledges fails looks start mid new [] all_pending all_pending input before
        so_far.rest so_far.sent so_far.rest so_far.sent so_far.went
        (one_looked answer makes lacks acknowledges fails looks mid new all_pending so_far.rest so_far.sent is);
    stands = so_far.stands;
    left_is = so_far.left_is;
    written_is = so_far.written_is;
  }

  answers : (start : C) (input before : List ℕ) (mid new : C) (ready : Ready T) (more : List (PendingFrame T))
      (input_end : Option (Result (Unit {0}) WireFault)) (left written out : Option (List ℕ)) (reply : Reply)
      → Goes start input before mid (Settled ready ∷ more) input_end left written
      → IsGiven answer makes lacks acknowledges fails mid ready reply new
      → Appends written out (frame_encoding (reply_encoding reply))
      → Goes start input before new more input_end left out
  answers start input before mid new ready more input_end left written out reply so_far given appends = record {
    rest = so_far.rest;
    unread = so_far.unread;
    sent = so_far.sent ++ frame_encoding (reply_encoding reply);
    went =
        went_both answer makes lacks acknowledges fails looks start mid new [] (Settled ready ∷ more) more input before
        so_far.rest so_far.sent so_far.rest (so_far.sent ++ frame_encoding (reply_encoding reply)) so_far.went
        (one_acknowledged answer makes lacks acknowledges fails looks mid new (Settled ready) more reply so_far.rest
        so_far.sent (so_far.sent ++ frame_encoding (reply_encoding reply)) given refl);
    stands = so_far.stands;
    left_is = so_far.left_is;
    written_is =
        appends_is so_far.sent (frame_encoding (reply_encoding reply)) written out so_far.written_is appends;
  }

  -- the first frame in hand was answered
  pub told : (start : C) (input before : List ℕ) (mid new : C) (ready : Ready T)
      (old_pending more : List (PendingFrame T)) (input_end : Option (Result (Unit {0}) WireFault))
      (left written out : Option (List ℕ)) (done : Unit {0}) → old_pending ≡ Settled ready ∷ more
      → Tells answer makes lacks acknowledges fails mid ready new written out (Ok done)
      → Goes start input before mid old_pending input_end left written
      → Goes start input before new more input_end left out
  told start input before mid new ready old_pending more input_end left written out done is (said, given, appends)
      before_it =
      answers start input before mid new ready more input_end left written out said
      (subst (λ q. Goes start input before mid q input_end left written) is before_it) given appends

  left_at : (input_end : Option (Result (Unit {0}) WireFault)) (rest unread : List ℕ) (left : Option (List ℕ))
      → StandsAt answer makes lacks acknowledges fails looks input_end rest unread → left ≡ Some unread → IsLeft rest left
  left_at None rest unread left is known = inl (known ∙ ap (λ l. Some l) is)
  left_at (Some (Ok done)) rest unread left is known = inl (known ∙ ap (λ l. Some l) (is.1 ∙ sym is.0))
  left_at (Some (Err fault)) rest unread left is known =
      inr (fault, subst (λ l. IsReadOf rest (Err fault) l) (sym known) is)

  -- the first frame in hand couldn't be answered, or its reply couldn't be written
  pub untold : (start : C) (input before : List ℕ) (mid new : C) (ready : Ready T)
      (old_pending more : List (PendingFrame T)) (input_end : Option (Result (Unit {0}) WireFault))
      (left written out : Option (List ℕ)) (fault : ServeFault) → old_pending ≡ Settled ready ∷ more
      → Tells answer makes lacks acknowledges fails mid ready new written out (Err fault)
      → Goes start input before mid old_pending input_end left written
      → Ends start input before new left out (Err fault)
  untold start input before mid new ready old_pending more input_end left written out fault is tells before_it =
      by fault tells
    where
      so_far : Goes start input before mid (Settled ready ∷ more) input_end left written
      so_far = subst (λ q. Goes start input before mid q input_end left written) is before_it

      by : (f : ServeFault) → Tells answer makes lacks acknowledges fails mid ready new written out (Err f)
          → Ends start input before new left out (Err f)
      by (Store f) (ungiven, kept) = record {
        mid = mid;
        rest = so_far.rest;
        sent = so_far.sent;
        pending = Settled ready;
        all_pending = more;
        went = so_far.went;
        unacknowledged = ungiven;
        unread = left_at input_end so_far.rest so_far.unread left so_far.stands so_far.left_is;
        written_is = keeps_is so_far.sent written out so_far.written_is kept;
      }
      by (Wire f) (device, (said, given, part)) = inr (inl (record {
        fault_is = device;
        mid = mid;
        rest = so_far.rest;
        sent = so_far.sent;
        pending = Settled ready;
        all_pending = more;
        went = so_far.went;
        reply = said;
        is_acknowledged = given;
        unread = left_at input_end so_far.rest so_far.unread left so_far.stands so_far.left_is;
        part =
            subst (λ o. AppendsPart o out (frame_encoding (reply_encoding said))) so_far.written_is part;
      }))

  -- what was written couldn't be flushed
  pub is_unflushed : (start : C) (input before : List ℕ) (now : C) (all_pending : List (PendingFrame T))
      (input_end : Option (Result (Unit {0}) WireFault)) (left written : Option (List ℕ)) (fault : WireFault)
      → Goes start input before now all_pending input_end left written → fault ≡ Device
      → Ends start input before now left written (Err (Wire fault))
  is_unflushed start input before now all_pending input_end left written fault so_far device = inr (inr (record {
    fault_is = device;
    rest = so_far.rest;
    sent = so_far.sent;
    all_pending = all_pending;
    went = so_far.went;
    unread = left_at input_end so_far.rest so_far.unread left so_far.stands so_far.left_is;
    written_is = so_far.written_is;
  }))

  -- the input is over, and nothing is in hand
  pub is_over : (start : C) (input before : List ℕ) (now : C) (ended : Result (Unit {0}) WireFault)
      (left written : Option (List ℕ)) → Goes start input before now [] (Some ended) left written
      → Ends start input before now left written (fault_of ended)
  is_over start input before now (Ok done) left written so_far = record {
    sent = so_far.sent;
    went =
        subst (λ l. Went answer makes lacks acknowledges fails looks start [] now input before l so_far.sent [])
        so_far.stands.0 so_far.went;
    all = so_far.left_is ∙ ap (λ l. Some l) so_far.stands.1;
    written_is = so_far.written_is;
  }
  is_over start input before now (Err fault) left written so_far = inl (record {
    rest = so_far.rest;
    sent = so_far.sent;
    went = so_far.went;
    unreadable = subst (λ l. IsReadOf so_far.rest (Err fault) l) (sym so_far.left_is) so_far.stands;
    written_is = so_far.written_is;
  })
