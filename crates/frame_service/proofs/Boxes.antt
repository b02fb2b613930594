-- What reading from an inbox, and giving from an outbox, does to the bytes that are known.
use Rattle.std.proofs.Common.{◌≡◌, ℕ, List, [], ◌++◌, length, take, drop, Option, None, Some, refl, sym, ap, subst, ◌∙◌, ◌<◌, arith, append_assoc}
use Rattle.std.proofs.lemmas.List.{append-nil, take-append-drop}
use Rattle.std.specs.Io.KnownBytes.{Appends, Consumes, IsAtEnd, Keeps, append_known, prepend_known}
use Rattle.frame_service.specs.declared.inbox.Source.{Source}
use Rattle.frame_service.specs.Boxes.{Gives, InboxValue, OutboxValue, inbox_remaining, outbox_contents}

front_consumed : (o : Option (List ℕ)) (bytes buf : List ℕ) (n : ℕ) → take n buf ≡ take n bytes
    → Consumes (prepend_known bytes o) (prepend_known (drop n bytes) o) (take n buf)
front_consumed None bytes buf n same = tt
front_consumed (Some xs) bytes buf n same =
    ap (λ l. l ++ xs) (sym (take-append-drop n bytes)) ∙ append_assoc (take n bytes) (drop n bytes) xs
    ∙ ap (λ l. l ++ (drop n bytes ++ xs)) (sym same)

-- Some bytes were read, unless there was no room for them.
pub reads_front : {R : Type 0} (remaining : R → Option (List ℕ)) (old : InboxValue R) (stream : R) (bytes : List ℕ)
    (source : Source) (n : ℕ) (buf : List ℕ) → stream ≡ old.stream → bytes ≡ drop n old.bytes
    → take n buf ≡ take n old.bytes → (n ≡ 0 → length buf ≡ 0)
    → Consumes (inbox_remaining remaining old)
    (inbox_remaining remaining (record { stream = stream; bytes = bytes; source = source })) (take n buf)
    × (n ≡ 0 → 0 < length buf
    → IsAtEnd (inbox_remaining remaining (record { stream = stream; bytes = bytes; source = source })))
reads_front remaining old stream bytes source n buf same left read some = (
  subst (λ o. Consumes (inbox_remaining remaining old) o (take n buf))
      (ap (λ b. prepend_known b (remaining old.stream)) (sym left)
      ∙ ap (λ s. prepend_known bytes (remaining s)) (sym same))
      (front_consumed (remaining old.stream) old.bytes buf n read),
  λ none room. absurd (omega (arith, some none, room)),
)

module _ {W : Type 0} (contents : W → Option (List ℕ)) where
  pub gives_none : (old : OutboxValue W) (stream : W) → Keeps (contents old.stream) (contents stream)
      → Gives contents old (record { stream = stream; bytes = old.bytes })
  gives_none old stream kept = record { given = []; bytes = refl; taken = none (contents old.stream) (contents stream) kept }
    where
      none : (o p : Option (List ℕ)) → Keeps o p → Appends o p []
      none None p h = tt
      none (Some xs) None h = absurd h
      none (Some xs) (Some ys) h = h ∙ sym (append-nil xs)

  pub gives_some : (old : OutboxValue W) (stream : W) (bytes : List ℕ) (n : ℕ) → bytes ≡ drop n old.bytes
      → Appends (contents old.stream) (contents stream) (take n old.bytes)
      → Gives contents old (record { stream = stream; bytes = bytes })
  gives_some old stream bytes n left taken =
      record {
        given = take n old.bytes;
        bytes = sym (take-append-drop n old.bytes) ∙ ap (λ l. take n old.bytes ++ l) (sym left);
        taken = taken;
      }

  pub gives_both : (old mid new : OutboxValue W) → Gives contents old mid → Gives contents mid new
      → Gives contents old new
  gives_both old mid new first second = record {
    given = first.given ++ second.given;
    bytes =
        first.bytes ∙ ap (λ l. first.given ++ l) second.bytes
        ∙ sym (append_assoc first.given second.given new.bytes);
    taken = both (contents old.stream) (contents mid.stream) (contents new.stream) first.taken second.taken;
  }
    where
      both : (o p q : Option (List ℕ)) → Appends o p first.given → Appends p q second.given
          → Appends o q (first.given ++ second.given)
      both None p q h k = tt
      both (Some xs) None q h k = absurd h
      both (Some xs) (Some ys) None h k = absurd k
      both (Some xs) (Some ys) (Some zs) h k =
          k ∙ ap (λ l. l ++ second.given) h ∙ append_assoc xs first.given second.given

  -- what was given is still among all that was written
  pub gives_keep : (old new : OutboxValue W) → Gives contents old new
      → Keeps (outbox_contents contents old) (outbox_contents contents new)
  gives_keep old new gives = same (contents old.stream) (contents new.stream) gives.taken
    where
      same : (o p : Option (List ℕ)) → Appends o p gives.given
          → Keeps (append_known o old.bytes) (append_known p new.bytes)
      same None p h = tt
      same (Some xs) None h = absurd h
      same (Some xs) (Some ys) h =
          ap (λ l. l ++ new.bytes) h ∙ append_assoc xs gives.given new.bytes ∙ ap (λ l. xs ++ l) (sym gives.bytes)

  pub gives_nothing : (old : OutboxValue W) → Gives contents old old
  gives_nothing old = gives_none old old.stream (kept (contents old.stream))
    where
      kept : (o : Option (List ℕ)) → Keeps o o
      kept None = tt
      kept (Some xs) = refl
