-- How a connection continues.
use Rattle.std.proofs.Common.{◌≡◌, ℕ, Bool, true, false, cond, nat_lt, take, drop, List, [], ◌∷◌, ◌++◌, length, Option, Some, None, IfSome, refl, sym, ap, subst, ◌∙◌, ◌+◌, arith, append_assoc, length-append}
use Rattle.std.proofs.lemmas.List.{append-nil}
use Rattle.std.proofs.Math.Dec.{eqb-suc-zero}
use Rattle.std.specs.Io.KnownBytes.{Appends, Keeps}
use Rattle.calls.specs.declared.request.Request.{Request}
use Rattle.ipc_model.specs.declared.reply.Reply.{Reply}
use Rattle.ipc_model.specs.encodings.Encodings.{reply_encoding}
use Rattle.words.specs.Words.{frame_encoding}
use Rattle.byteorder.specs.Endian.{little_number}
use Rattle.wire.specs.declared.fault.WireFault.TheVariants.{Short, TooLong}
use Rattle.wire.specs.Frame.{Front, ended, whole, faulty, front_of, content_at}
use Rattle.frame_service.specs.Serving.{Exchanges, Answers, IsAnswered, ServesAll, requests_encoding, replies_encoding}

pub appends_is : (out bytes : List ℕ) (old new : Option (List ℕ)) → old ≡ Some out → Appends old new bytes
    → new ≡ Some (out ++ bytes)
appends_is out bytes old new e is = known new (subst (λ o. Appends o new bytes) e is)
  where
    known : (now : Option (List ℕ)) → Appends (Some out) now bytes → now ≡ Some (out ++ bytes)
    known None h = absurd h
    known (Some ys) h = ap (λ l. Some l) h

pub keeps_same : (o : Option (List ℕ)) → Keeps o o
keeps_same None = tt
keeps_same (Some xs) = refl

pub keeps_is : (out : List ℕ) (old new : Option (List ℕ)) → old ≡ Some out → Keeps old new → new ≡ Some out
keeps_is out old new e is = known new (subst (λ o. Keeps o new) e is)
  where
    known : (now : Option (List ℕ)) → Keeps (Some out) now → now ≡ Some out
    known None h = absurd h
    known (Some ys) h = ap (λ l. Some l) h

module _ {C : Type 0} (answers : C → Request → Reply → C → Type 0) (rests : C → C → Type 0) where
  -- some of the input was served
  pub record Going (old now : C) (input before : List ℕ) (left written : Option (List ℕ)) (count : ℕ) : Type 0 where
    pub exchanges : Exchanges
    pub rest : List ℕ
    pub calls : Answers answers rests old exchanges now
    pub read : input ≡ requests_encoding exchanges ++ rest
    pub rest_is : left ≡ Some rest
    pub replies : written ≡ Some (before ++ replies_encoding exchanges)
    pub counted : length exchanges ≡ count

  pub begun : (old : C) (input before : List ℕ) (left written : Option (List ℕ)) → left ≡ Some input
      → written ≡ Some before → Going old old input before left written 0
  begun old input before left written e f =
      record {
        exchanges = [];
        rest = input;
        calls = refl;
        read = refl;
        rest_is = e;
        replies = f ∙ ap (λ l. Some l) (sym (append-nil before));
        counted = refl;
      }

  answers-push : (old mid later new : C) (exchanges : Exchanges) (exchange : List ℕ × Reply)
      → Answers answers rests old exchanges mid → IsAnswered answers mid exchange.0 exchange.1 later → rests later new
      → Answers answers rests old (exchanges ++ exchange ∷ []) new
  answers-push old mid later new [] exchange so_far is rested =
      (later, new, subst (λ c. IsAnswered answers c exchange.0 exchange.1 later) so_far is, rested, refl)
  answers-push old mid later new (first ∷ exchanges) exchange so_far is rested = (
    so_far.0,
    so_far.1,
    so_far.2,
    so_far.3,
    answers-push so_far.1 mid later new exchanges exchange so_far.4 is rested,
  )

  requests_encoding-push : (exchanges : Exchanges) (exchange : List ℕ × Reply)
      → requests_encoding (exchanges ++ exchange ∷ []) ≡ requests_encoding exchanges ++ frame_encoding exchange.0
  requests_encoding-push [] exchange = append-nil (frame_encoding exchange.0)
  requests_encoding-push (first ∷ exchanges) exchange =
      ap (λ l. frame_encoding first.0 ++ l) (requests_encoding-push exchanges exchange)
      ∙ sym (append_assoc (frame_encoding first.0) (requests_encoding exchanges) (frame_encoding exchange.0))

  replies_encoding-push : (exchanges : Exchanges) (exchange : List ℕ × Reply)
      → replies_encoding (exchanges ++ exchange ∷ []) ≡ replies_encoding exchanges
      ++ frame_encoding (reply_encoding exchange.1)
  replies_encoding-push [] exchange = append-nil (frame_encoding (reply_encoding exchange.1))
  replies_encoding-push (first ∷ exchanges) exchange =
      ap (λ l. frame_encoding (reply_encoding first.1) ++ l) (replies_encoding-push exchanges exchange)
      ∙ sym (append_assoc (frame_encoding (reply_encoding first.1)) (replies_encoding exchanges)
      (frame_encoding (reply_encoding exchange.1)))

  -- at the end of the input
  pub ended_whole : (old now : C) (input before : List ℕ) (left written after : Option (List ℕ)) (count : ℕ)
      (so_far : Going old now input before left written count) → (so_far.rest ≡ []) × (after ≡ Some [])
      → ServesAll answers rests old now input before after written
  ended_whole old now input before left written after count so_far is =
      record {
        exchanges = so_far.exchanges;
        calls = so_far.calls;
        read = so_far.read ∙ ap (λ l. requests_encoding so_far.exchanges ++ l) is.0
            ∙ append-nil (requests_encoding so_far.exchanges);
        all = is.1;
        replies = so_far.replies;
      }

  -- one more frame, and the time after it
  pub goes_on : (old mid later new : C) (input before content after : List ℕ) (answer : Reply)
      (left now written sent : Option (List ℕ)) (count : ℕ) (so_far : Going old mid input before left written count)
      → so_far.rest ≡ frame_encoding content ++ after → now ≡ Some after
      → IsAnswered answers mid content answer later → rests later new
      → sent ≡ Some ((before ++ replies_encoding so_far.exchanges) ++ frame_encoding (reply_encoding answer))
      → Going old new input before now sent (count + 1)
  goes_on old mid later new input before content after answer left now written sent count so_far frame now_is answered
      rested out =
      let exchange : List ℕ × Reply = (content, answer) in
      record {
        exchanges = so_far.exchanges ++ exchange ∷ [];
        rest = after;
        calls = answers-push old mid later new so_far.exchanges exchange so_far.calls answered rested;
        read =
            so_far.read ∙ ap (λ l. requests_encoding so_far.exchanges ++ l) frame
            ∙ sym (append_assoc (requests_encoding so_far.exchanges) (frame_encoding content) after) ∙ ap
            (λ l. l ++ after) (sym (requests_encoding-push so_far.exchanges exchange));
        rest_is = now_is;
        replies =
            out ∙ ap (λ l. Some l) (append_assoc before (replies_encoding so_far.exchanges)
            (frame_encoding (reply_encoding answer)) ∙ ap
            (λ l. before ++ l) (sym (replies_encoding-push so_far.exchanges exchange)));
        counted = omega (arith, so_far.counted, length-append so_far.exchanges (exchange ∷ []));
      }

-- what was read of known bytes
pub frame_read : (old new : Option (List ℕ)) (rest content : List ℕ) → old ≡ Some rest
    → IfSome old (λ input. (after : List ℕ) × (input ≡ frame_encoding content ++ after) × (new ≡ Some after))
    → (after : List ℕ) × (rest ≡ frame_encoding content ++ after) × (new ≡ Some after)
frame_read old new rest content e found =
    subst (λ o. IfSome o (λ input. (after : List ℕ) × (input ≡ frame_encoding content ++ after) × (new ≡ Some after))) e
    found

-- an input whose front is its end has nothing left
is_ended : Front → Bool
is_ended ended = true
is_ended (whole content left) = false
is_ended (faulty fault left) = false

goes_past : (n : ℕ) (rest : List ℕ) → is_ended (content_at n rest) ≡ false
unfolding is_ended
goes_past n rest = by_tests (nat_lt n 4) (nat_lt 65532 n) (nat_lt (length rest) n)
  where
    by_tests : (a b c : Bool) → is_ended
        (cond a (faulty Short rest) (cond b (faulty TooLong rest)
        (cond c (faulty Short []) (whole (take n rest) (drop n rest))))) ≡ false
    by_tests true b c = refl
    by_tests false true c = refl
    by_tests false false true = refl
    by_tests false false false = refl

past_end : (a : ℕ) (rest : List ℕ) → is_ended (front_of (a ∷ rest)) ≡ false
unfolding is_ended
past_end a rest =
    let n = little_number 4 (a ∷ rest) in
    let beyond = drop 4 (a ∷ rest) in
    ap (λ (b : Bool). is_ended (cond b ended
    (cond (nat_lt (length (a ∷ rest)) 4) (faulty Short []) (content_at n beyond)))) (eqb-suc-zero (length rest))
    ∙ by_length (nat_lt (length (a ∷ rest)) 4) n beyond
  where
    by_length : (c : Bool) (n : ℕ) (beyond : List ℕ) → is_ended (cond c (faulty Short []) (content_at n beyond)) ≡ false
    by_length true n beyond = refl
    by_length false n beyond = goes_past n beyond

pub nothing_left : (rest : List ℕ) → front_of rest ≡ ended → rest ≡ []
unfolding is_ended
nothing_left [] is = refl
nothing_left (a ∷ rest) is = absurd (cc (sym (past_end a rest) ∙ ap is_ended is))

pub end_read : (old new : Option (List ℕ)) (rest : List ℕ) → old ≡ Some rest
    → IfSome old (λ input. (front_of input ≡ ended) × (new ≡ Some [])) → (rest ≡ []) × (new ≡ Some [])
end_read old new rest e found =
    let known = subst (λ o. IfSome o (λ input. (front_of input ≡ ended) × (new ≡ Some []))) e found in
    (nothing_left rest known.0, known.1)

-- a fact for bytes that are known on both sides
pub both_known : (o p : Option (List ℕ)) (P : List ℕ → List ℕ → Type 0)
    → ((input before : List ℕ) → o ≡ Some input → p ≡ Some before → P input before)
    → IfSome o (λ input. IfSome p (λ before. P input before))
both_known None p P f = tt
both_known (Some input) None P f = tt
both_known (Some input) (Some before) P f = f input before refl refl
