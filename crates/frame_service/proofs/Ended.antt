-- How a connection ends with a fault, and parts of what was to be written.
use Rattle.std.proofs.Common.{◌≡◌, ◌-◌, ◌^◌, inl, inr, List, [], ℕ, ◌++◌, Option, Some, IfSome, Result, Err, refl, sym, subst, ◌∙◌}
use Rattle.std.specs.Io.KnownBytes.{Appends}
use Rattle.std.proofs.lemmas.List.{append-nil}
use Rattle.calls.specs.declared.request.Request.{Request}
use Rattle.ipc_model.specs.declared.reply.Reply.{Reply}
use Rattle.ipc_model.specs.encodings.Encodings.{reply_encoding}
use Rattle.store_fault.specs.declared.fault.StoreFault.{StoreFault}
use Rattle.frame_service.proofs.Going.{Going}
use Rattle.frame_service.specs.Serving.{Ends, Exchanged, IsAnswered, IsFailed, replies_encoding}
use Rattle.frame_service.specs.declared.service.ServeFault.{ServeFault}
use Rattle.frame_service.specs.declared.service.ServeFault.TheVariants.{Wire, Store}
use Rattle.wire.specs.Frame.{IsReadOf}
use Rattle.wire.specs.Writing.{AppendsPart}
use Rattle.wire.specs.declared.fault.WireFault.{WireFault}
use Rattle.wire.specs.declared.fault.WireFault.TheVariants.{Device}
use Rattle.words.specs.Words.{frame_encoding}

-- a part of what is written whole
pub part_whole : (out bytes : List ℕ) (new : Option (List ℕ)) → new ≡ Some (out ++ bytes)
    → AppendsPart (Some out) new bytes
part_whole out bytes new is = (bytes, [], sym (append-nil bytes), subst (λ o. Appends (Some out) o bytes) (sym is) refl)

module _ {C : Type 0} (answers : C → Request → Reply → C → Type 0) (fails : C → Request → StoreFault → C → Type 0)
    (rests : C → C → Type 0) (breaks : C → StoreFault → C → Type 0) (old : C) (input before : List ℕ) where
  served_so_far : (mid : C) (left written : Option (List ℕ)) (count : ℕ)
      (so_far : Going answers rests old mid input before left written count)
      → Exchanged answers rests old mid input before so_far.rest (before ++ replies_encoding so_far.exchanges)
  served_so_far mid left written count so_far =
      record { exchanges = so_far.exchanges; calls = so_far.calls; read = so_far.read; replies = refl }

  pub ends_reading : (mid : C) (start left written : Option (List ℕ)) (count : ℕ) (fault : WireFault)
      (result : Result (Unit {0}) ServeFault) → Going answers rests old mid input before start written count
      → IfSome start (λ rest. IsReadOf rest (Err fault) left) → result ≡ Err (Wire fault)
      → Ends answers fails rests breaks old mid input before left written result
  ends_reading mid start left written count fault result so_far unread is =
      subst (λ (r : Result (Unit {0}) ServeFault). Ends answers fails rests breaks old mid input before left written r)
      (sym is) (inr (inl (record {
        rest = so_far.rest;
        sent = before ++ replies_encoding so_far.exchanges;
        exchanged = served_so_far mid start written count so_far;
        unreadable = subst (λ o. IfSome o (λ rest. IsReadOf rest (Err fault) left)) so_far.rest_is unread;
        written_is = so_far.replies;
      })))

  pub ends_calling : (mid new : C) (start left written : Option (List ℕ)) (count : ℕ) (content beyond : List ℕ)
      (fault : StoreFault) (result : Result (Unit {0}) ServeFault)
      (so_far : Going answers rests old mid input before start written count)
      → so_far.rest ≡ frame_encoding content ++ beyond → left ≡ Some beyond
      → IsFailed answers fails mid content fault new → result ≡ Err (Store fault)
      → Ends answers fails rests breaks old new input before left written result
  ends_calling mid new start left written count content beyond fault result so_far frame unread failed is =
      subst (λ (r : Result (Unit {0}) ServeFault). Ends answers fails rests breaks old new input before left written r)
      (sym is) (inl (record {
        mid = mid;
        rest = so_far.rest;
        sent = before ++ replies_encoding so_far.exchanges;
        exchanged = served_so_far mid start written count so_far;
        content = content;
        beyond = beyond;
        frame = frame;
        unread = unread;
        failed = failed;
        written_is = so_far.replies;
      }))

  pub ends_writing : (mid new : C) (start left sent written : Option (List ℕ)) (count : ℕ) (content beyond : List ℕ)
      (answer : Reply) (fault : WireFault) (result : Result (Unit {0}) ServeFault)
      (so_far : Going answers rests old mid input before start sent count)
      → so_far.rest ≡ frame_encoding content ++ beyond → left ≡ Some beyond → IsAnswered answers mid content answer new
      → AppendsPart (Some (before ++ replies_encoding so_far.exchanges)) written
      (frame_encoding (reply_encoding answer))
      → fault ≡ Device → result ≡ Err (Wire fault)
      → Ends answers fails rests breaks old new input before left written result
  ends_writing mid new start left sent written count content beyond answer fault result so_far frame unread answered
      part device is = subst (λ (r : Result (Unit {0}) ServeFault). Ends answers fails rests breaks old new input before
      left written r) (sym is) (inr (inr (inl (record {
        fault_is = device;
        mid = mid;
        rest = so_far.rest;
        sent = before ++ replies_encoding so_far.exchanges;
        exchanged = served_so_far mid start sent count so_far;
        content = content;
        beyond = beyond;
        frame = frame;
        unread = unread;
        answer = answer;
        answered = answered;
        part = part;
      }))))

  pub ends_resting : (mid after new : C) (start left sent written : Option (List ℕ)) (count : ℕ)
      (content beyond : List ℕ) (answer : Reply) (fault : StoreFault) (result : Result (Unit {0}) ServeFault)
      (so_far : Going answers rests old mid input before start sent count)
      → so_far.rest ≡ frame_encoding content ++ beyond → left ≡ Some beyond
      → IsAnswered answers mid content answer after → breaks after fault new
      → written ≡ Some ((before ++ replies_encoding so_far.exchanges) ++ frame_encoding (reply_encoding answer))
      → result ≡ Err (Store fault) → Ends answers fails rests breaks old new input before left written result
  ends_resting mid after new start left sent written count content beyond answer fault result so_far frame unread
      answered broken out is = subst
      (λ (r : Result (Unit {0}) ServeFault). Ends answers fails rests breaks old new input before left written r)
      (sym is) (inr (record {
        mid = mid;
        rest = so_far.rest;
        sent = before ++ replies_encoding so_far.exchanges;
        exchanged = served_so_far mid start sent count so_far;
        content = content;
        beyond = beyond;
        frame = frame;
        unread = unread;
        answer = answer;
        after = after;
        answered = answered;
        broken = broken;
        written_is = out;
      }))

  pub ends_at_most : (mid : C) (left written : Option (List ℕ)) (count : ℕ)
      (so_far : Going answers rests old mid input before left written count) → count ≡ 2 ^ 64 - 1
      → Ends answers fails rests breaks old mid input before left written (Err (Wire Device))
  unfolding served_so_far
  ends_at_most mid left written count so_far most = inr (inr (inr (record {
    fault_is = refl;
    rest = so_far.rest;
    sent = before ++ replies_encoding so_far.exchanges;
    exchanged = served_so_far mid left written count so_far;
    most = so_far.counted ∙ most;
    unread = so_far.rest_is;
    written_is = so_far.replies;
  })))
