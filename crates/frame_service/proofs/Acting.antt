-- What a connection did, and then did.
use Rattle.std.proofs.Common.{◌≡◌, ◌+◌, ℕ, List, [], ◌∷◌, ◌++◌, Option, Some, refl, sym, ap, subst, ◌∙◌, arith, append_assoc}
use Rattle.std.proofs.lemmas.List.{append-nil}
use Rattle.calls.specs.declared.request.Request.{Request}
use Rattle.ipc_model.specs.declared.reply.Reply.{Reply}
use Rattle.ipc_model.specs.encodings.Encodings.{reply_encoding}
use Rattle.store_fault.specs.declared.fault.StoreFault.{StoreFault}
use Rattle.frame_service.specs.Asking.{Act, took, tried, acknowledged, looked, Acted, IsTried, IsTaken, IsAcknowledged, Went, frame_count, frames_of, replies_of}
use Rattle.frame_service.specs.declared.asking.PendingFrame.{PendingFrame}
use Rattle.words.specs.Words.{frame_encoding}

pub frames_both : {T : Type 0} (acts more : List (Act T)) → frames_of (acts ++ more) ≡ frames_of acts ++ frames_of more
frames_both [] more = refl
frames_both (took content pending ∷ acts) more =
    ap (λ l. frame_encoding content ++ l) (frames_both acts more)
    ∙ sym (append_assoc (frame_encoding content) (frames_of acts) (frames_of more))
frames_both (tried pending ∷ acts) more = frames_both acts more
frames_both (acknowledged reply ∷ acts) more = frames_both acts more
frames_both (looked ∷ acts) more = frames_both acts more

pub replies_both : {T : Type 0} (acts more : List (Act T))
    → replies_of (acts ++ more) ≡ replies_of acts ++ replies_of more
replies_both [] more = refl
replies_both (took content pending ∷ acts) more = replies_both acts more
replies_both (tried pending ∷ acts) more = replies_both acts more
replies_both (acknowledged reply ∷ acts) more =
    ap (λ l. frame_encoding (reply_encoding reply) ++ l) (replies_both acts more)
    ∙ sym (append_assoc (frame_encoding (reply_encoding reply)) (replies_of acts) (replies_of more))
replies_both (looked ∷ acts) more = replies_both acts more

frame_count_both : {T : Type 0} (acts more : List (Act T))
    → frame_count (acts ++ more) ≡ frame_count acts + frame_count more
frame_count_both [] more = omega arith
frame_count_both (took content pending ∷ acts) more = omega (arith, frame_count_both acts more)
frame_count_both (tried pending ∷ acts) more = frame_count_both acts more
frame_count_both (acknowledged reply ∷ acts) more = frame_count_both acts more
frame_count_both (looked ∷ acts) more = frame_count_both acts more

module _ {C T : Type 0} (answer : T → Reply) (makes : C → Request → T → C → Type 0) (lacks : C → Request → C → Type 0)
    (acknowledges : C → T → C → Type 0) (fails : C → T → StoreFault → C → Type 0) (looks : C → C → Type 0) where
  pub acted_both : (old mid new : C) (queue between left : List (PendingFrame T)) (acts more : List (Act T))
      → Acted answer makes lacks acknowledges fails looks old queue acts between mid
      → Acted answer makes lacks acknowledges fails looks mid between more left new
      → Acted answer makes lacks acknowledges fails looks old queue (acts ++ more) left new
  acted_both old mid new queue between left [] more first second =
      subst (λ c. Acted answer makes lacks acknowledges fails looks c queue more left new) first.1
      (subst (λ q. Acted answer makes lacks acknowledges fails looks mid q more left new) first.0 second)
  acted_both old mid new queue between left (took content pending ∷ acts) more first second =
      (first.0, first.1, acted_both first.0 mid new (queue ++ pending ∷ []) between left acts more first.2 second)
  acted_both old mid new [] between left (tried pending ∷ acts) more first second = absurd first
  acted_both old mid new (waiting ∷ queue) between left (tried pending ∷ acts) more first second =
      (first.0, first.1, acted_both first.0 mid new (pending ∷ queue) between left acts more first.2 second)
  acted_both old mid new [] between left (acknowledged reply ∷ acts) more first second = absurd first
  acted_both old mid new (pending ∷ queue) between left (acknowledged reply ∷ acts) more first second =
      (first.0, first.1, acted_both first.0 mid new queue between left acts more first.2 second)
  acted_both old mid new queue between left (looked ∷ acts) more first second =
      (first.0, first.1, acted_both first.0 mid new queue between left acts more first.2 second)

  -- So far, and then further.
  pub went_both : (old mid new : C) (queue between left : List (PendingFrame T))
      (input before rest sent further out : List ℕ)
      → Went answer makes lacks acknowledges fails looks old queue mid input before rest sent between
      → Went answer makes lacks acknowledges fails looks mid between new rest sent further out left
      → Went answer makes lacks acknowledges fails looks old queue new input before further out left
  went_both old mid new queue between left input before rest sent further out first second = record {
    acts = first.acts ++ second.acts;
    acted = acted_both old mid new queue between left first.acts second.acts first.acted second.acted;
    read =
        first.read ∙ ap (λ l. frames_of first.acts ++ l) second.read
        ∙ sym (append_assoc (frames_of first.acts) (frames_of second.acts) further) ∙ ap
        (λ l. l ++ further) (sym (frames_both first.acts second.acts));
    acknowledged_is =
        second.acknowledged_is ∙ ap (λ l. l ++ replies_of second.acts) first.acknowledged_is
        ∙ append_assoc before (replies_of first.acts) (replies_of second.acts) ∙ ap
        (λ l. before ++ l) (sym (replies_both first.acts second.acts));
  }

  -- Nothing was done yet.
  pub begun : (old : C) (queue : List (PendingFrame T)) (input before : List ℕ)
      → Went answer makes lacks acknowledges fails looks old queue old input before input before queue
  begun old queue input before =
      record { acts = []; acted = (refl, refl); read = refl; acknowledged_is = sym (append-nil before) }

  -- The first frame in hand was answered.
  pub one_acknowledged : (old new : C) (pending : PendingFrame T) (all_pending : List (PendingFrame T)) (reply : Reply)
      (input before sent : List ℕ) → IsAcknowledged answer makes lacks acknowledges fails old pending reply new
      → sent ≡ before ++ frame_encoding (reply_encoding reply)
      → Went answer makes lacks acknowledges fails looks old (pending ∷ all_pending) new input before input sent all_pending
  one_acknowledged old new pending all_pending reply input before sent is out = record {
    acts = acknowledged reply ∷ [];
    acted = (new, is, (refl, refl));
    read = refl;
    acknowledged_is = out ∙ ap (λ l. before ++ l) (sym (append-nil (frame_encoding (reply_encoding reply))));
  }

  -- The first frame in hand, which waited, was tried again.
  pub one_tried : (old new : C) (waiting pending : PendingFrame T) (all_pending : List (PendingFrame T))
      (input before : List ℕ) → IsTried answer makes lacks acknowledges fails old waiting pending new
      → Went answer makes lacks acknowledges fails looks old (waiting ∷ all_pending) new input before input before
      (pending ∷ all_pending)
  one_tried old new waiting pending all_pending input before is = record {
    acts = tried pending ∷ [];
    acted = (new, is, (refl, refl));
    read = refl;
    acknowledged_is = sym (append-nil before);
  }

  -- The caller learned what others did.
  pub one_looked : (old new : C) (all_pending : List (PendingFrame T)) (input before : List ℕ) → looks old new
      → Went answer makes lacks acknowledges fails looks old all_pending new input before input before all_pending
  one_looked old new all_pending input before is = record {
    acts = looked ∷ [];
    acted = (new, is, (refl, refl));
    read = refl;
    acknowledged_is = sym (append-nil before);
  }

  -- Frames were taken so far, this many.
  pub record Taking (old now : C) (all_pending : List (PendingFrame T)) (input : List ℕ) (left : Option (List ℕ))
      (count : ℕ) : Type 0 where
    pub acts : List (Act T)
    pub rest : List ℕ
    pub acted : Acted answer makes lacks acknowledges fails looks old [] acts all_pending now
    pub read : input ≡ frames_of acts ++ rest
    pub silent : replies_of acts ≡ []
    pub counted : frame_count acts ≡ count
    pub left_is : left ≡ Some rest

  pub none_taken : (old : C) (all_pending : List (PendingFrame T)) (input : List ℕ) (left : Option (List ℕ))
      → all_pending ≡ [] → left ≡ Some input → Taking old old all_pending input left 0
  none_taken old all_pending input left none is =
      record { acts = []; rest = input; acted = (none, refl); read = refl; silent = refl; counted = refl; left_is = is }

  pub one_taken : (old mid new : C) (all_pending more : List (PendingFrame T)) (pending : PendingFrame T)
      (input content beyond : List ℕ) (left now : Option (List ℕ)) (count : ℕ)
      (so_far : Taking old mid all_pending input left count)
      → so_far.rest ≡ frame_encoding content ++ beyond → now ≡ Some beyond
      → IsTaken answer makes lacks mid content pending new → more ≡ all_pending ++ pending ∷ []
      → Taking old new more input now (count + 1)
  one_taken old mid new all_pending more pending input content beyond left now count so_far front is taken pushed =
      let one : List (Act T) = took content pending ∷ [] in
      record {
        acts = so_far.acts ++ one;
        rest = beyond;
        acted = acted_both old mid new [] all_pending more so_far.acts one so_far.acted (new, taken, (pushed, refl));
        read =
            so_far.read ∙ ap (λ l. frames_of so_far.acts ++ l) front
            ∙ sym (append_assoc (frames_of so_far.acts) (frame_encoding content) beyond)
            ∙ ap (λ l. l ++ beyond) (ap (λ l. frames_of so_far.acts ++ l) (sym (append-nil (frame_encoding content)))
            ∙ sym (frames_both so_far.acts one));
        silent = replies_both so_far.acts one ∙ ap (λ l. l ++ []) so_far.silent;
        counted = omega (arith, so_far.counted, frame_count_both so_far.acts one);
        left_is = is;
      }
