-- The names that arriving rights bring.
use Rattle.std.proofs.Common.{◌≡◌, ℕ, ◌+◌, ◌<◌, Bool, true, false, cond, ◌==◌, ◌||◌, List, [], ◌∷◌, ◌++◌, length, get_or, take, drop, refl, sym, ◌∙◌, ap, subst}
use Rattle.std.proofs.lemmas.List.{take_more, take-append-drop}
use Rattle.std.proofs.Math.Numerals.{add-one}
use Rattle.std.proofs.Math.Seq.{drop-cons}
use Rattle.std.specs.List.{list_any}
use Rattle.ipc_model.specs.declared.message.CarriedRight.{CarriedRight}
use Rattle.ipc_model.specs.declared.message.PortInMessage.{PortInMessage}
use Rattle.ipc_model.specs.declared.message.PortInMessage.TheVariants as in_message
use Rattle.ipc_model.specs.declared.message.RightKind.{RightKind}
use Rattle.ipc_model.specs.declared.message.RightKind.TheVariants as kind
use Rattle.ipc_model.specs.rights.CopyOut.{named_with, names_needed, wants_name}
use Rattle.ipc_model.specs.state.Ipc.{Names}
use Rattle.rights.specs.Wanting.{named_after, names_port}

after_more : (named : List ℕ) (xs ys : List CarriedRight)
    → named_after named (xs ++ ys) ≡ named_after (named_after named xs) ys
after_more named [] ys = refl
after_more named (x ∷ xs) ys = after_more (named_with named x.kind x.port) xs ys

-- the named ports after one more right
pub named_one_more : (rights : List CarriedRight) (i : ℕ) (d : CarriedRight) → i < length rights
    → named_after [] (take (i + 1) rights)
    ≡ named_with (named_after [] (take i rights)) (get_or rights i d).kind (get_or rights i d).port
named_one_more rights i d h =
    ap (named_after []) (take_more rights i d h) ∙ after_more [] (take i rights) (get_or rights i d ∷ [])

module _ (serial : ℕ) where
  abbrev pub holds : List ℕ → Bool
  holds named = list_any (λ port. port == serial) named

  pub brought : (named : List ℕ) (kind : RightKind) (port : PortInMessage) → names_port serial kind port ≡ true
      → holds (named_with named kind port) ≡ true
  brought named kind.Send in_message.Null e = absurd (cc e)
  brought named kind.Send in_message.Dead e = absurd (cc e)
  brought named kind.Send (in_message.Live port) e = ap (λ (b : Bool). b || holds named) e
  brought named kind.Receive in_message.Null e = absurd (cc e)
  brought named kind.Receive in_message.Dead e = absurd (cc e)
  brought named kind.Receive (in_message.Live port) e = ap (λ (b : Bool). b || holds named) e
  brought named kind.SendOnce port e = absurd (cc e)

  pub not_brought : (named : List ℕ) (kind : RightKind) (port : PortInMessage) → names_port serial kind port ≡ false
      → holds named ≡ false → holds (named_with named kind port) ≡ false
  not_brought named kind.Send in_message.Null e h = h
  not_brought named kind.Send in_message.Dead e h = h
  not_brought named kind.Send (in_message.Live port) e h = ap (λ (b : Bool). b || holds named) e ∙ h
  not_brought named kind.Receive in_message.Null e h = h
  not_brought named kind.Receive in_message.Dead e h = h
  not_brought named kind.Receive (in_message.Live port) e h = ap (λ (b : Bool). b || holds named) e ∙ h
  not_brought named kind.SendOnce in_message.Null e h = h
  not_brought named kind.SendOnce in_message.Dead e h = h
  not_brought named kind.SendOnce (in_message.Live port) e h = h

  or_true : (b : Bool) → (b || true) ≡ true
  or_true true = refl
  or_true false = refl

  kept : (named : List ℕ) (kind : RightKind) (port : PortInMessage) → holds named ≡ true
      → holds (named_with named kind port) ≡ true
  kept named kind.Send in_message.Null h = h
  kept named kind.Send in_message.Dead h = h
  kept named kind.Send (in_message.Live port) h = ap (λ (b : Bool). (port == serial) || b) h ∙ or_true (port == serial)
  kept named kind.Receive in_message.Null h = h
  kept named kind.Receive in_message.Dead h = h
  kept named kind.Receive (in_message.Live port) h =
      ap (λ (b : Bool). (port == serial) || b) h ∙ or_true (port == serial)
  kept named kind.SendOnce in_message.Null h = h
  kept named kind.SendOnce in_message.Dead h = h
  kept named kind.SendOnce (in_message.Live port) h = h

  stays : (named : List ℕ) (rights : List CarriedRight) → holds named ≡ true → holds (named_after named rights) ≡ true
  stays named [] h = h
  stays named (right ∷ rights) h =
      stays (named_with named right.kind right.port) rights (kept named right.kind right.port h)

  -- each name that one of the rights brings is among the names in the end
  pub brought_by_one : (rights : List CarriedRight) (i : ℕ) (d : CarriedRight) → i < length rights
      → names_port serial (get_or rights i d).kind (get_or rights i d).port ≡ true
      → holds (named_after [] rights) ≡ true
  brought_by_one rights i d h e =
      subst (λ (xs : List CarriedRight). holds (named_after [] xs) ≡ true) (take-append-drop (i + 1) rights)
      (ap holds (after_more [] (take (i + 1) rights) (drop (i + 1) rights))
      ∙ stays (named_after [] (take (i + 1) rights)) (drop (i + 1) rights)
      (ap holds (named_one_more rights i d h)
      ∙ brought (named_after [] (take i rights)) (get_or rights i d).kind (get_or rights i d).port e))

-- the count of new names after one more right
pub one_wants : (names : Names) (rights : List CarriedRight) (i : ℕ) (d : CarriedRight) → i < length rights
    → names_needed names (named_after [] (take i rights)) (drop i rights)
    ≡ (cond (wants_name names (named_after [] (take i rights)) (get_or rights i d).kind (get_or rights i d).port) 1 0)
    + names_needed names (named_after [] (take (i + 1) rights)) (drop (i + 1) rights)
one_wants names rights i d h =
    ap (names_needed names (named_after [] (take i rights)))
    (drop-cons rights i d h ∙ ap (λ (n : ℕ). get_or rights i d ∷ drop n rights) (sym (add-one i)))
    ∙ ap (λ (named : List ℕ). cond
    (wants_name names (named_after [] (take i rights)) (get_or rights i d).kind (get_or rights i d).port) 1 0 +
    names_needed names named (drop (i + 1) rights)) (sym (named_one_more rights i d h))

-- the default value for an index past the end
abbrev pub blank : CarriedRight
blank = record { kind = kind.Receive; port = in_message.Null }
