-- The places where calls wait: names in spaces, and ports. Each is a number.
use Rattle.std.proofs.Common.{◌≡◌, ◌⊎◌, inl, inr, ℕ, ◌+◌, ◌*◌, ◌^◌, Bool, true, false, ◌||◌, List, [], ◌∷◌, ◌++◌, refl, sym, ◌∙◌, ap, subst}
use Rattle.tracked_map.specs.Touched.{is_touched, touched_append}
use Rattle.std.specs.Ordering.{nat_cmp, eq_by_cmp}
use Rattle.ipc_laws.specs.MapSums.{same_key}

-- the place of a name in a space
abbrev pub place_of_name : ℕ → ℕ → ℕ
place_of_name space name = space * 2 ^ 32 + name

-- the place of a port
abbrev pub place_of_port : ℕ → ℕ
place_of_port serial = 2 ^ 64 + serial

-- The places at which a waiting call may succeed: all calls at each place of `changed`, and one call at each place of
-- `ready`. If memory for the lists ran out, `are_all` means all calls at all places.
pub record Named : Type 0 where
  pub changed : List ℕ
  pub ready : List ℕ
  pub are_all : Bool

abbrev pub names : Named → ℕ → Bool
names named place = named.are_all || (is_touched place named.changed || is_touched place named.ready)

-- all reported places stay reported
abbrev pub IsMore : Named → Named → Type 0
IsMore old new = (place : ℕ) → names old place ≡ true → names new place ≡ true

pub all_named : (named : Named) (place : ℕ) → named.are_all ≡ true → names named place ≡ true
all_named named place all = ap (λ (b : Bool). b || (is_touched place named.changed || is_touched place named.ready)) all

or_more : (a b c d e : Bool) → (a || (b || c)) ≡ true → (b ≡ true → d ≡ true) → (c ≡ true → e ≡ true)
    → (a || (d || e)) ≡ true
or_more true b c d e is first second = refl
or_more false true c d e is first second = ap (λ (x : Bool). x || e) (first refl)
or_more false false c true e is first second = refl
or_more false false c false e is first second = second is

last_touched : (last : ℕ) (ks : List ℕ) → is_touched last (ks ++ last ∷ []) ≡ true
last_touched last ks =
    touched_append last ks (last ∷ []) ∙ at_end (is_touched last ks) (eq_by_cmp nat_cmp last last) (same_key last)
  where
    at_end : (a b : Bool) → b ≡ true → (a || (b || false)) ≡ true
    at_end true b e = refl
    at_end false true e = refl
    at_end false false e = absurd (cc e)

later_touched : (q last : ℕ) (ks : List ℕ) → is_touched q ks ≡ true → is_touched q (ks ++ last ∷ []) ≡ true
later_touched q last ks is = touched_append q ks (last ∷ []) ∙ ap (λ (b : Bool). b || is_touched q (last ∷ [])) is

pub more_changed : (old new : Named) (place : ℕ) → (new ≡ record old { changed = old.changed ++ place ∷ [] })
    ⊎ (new ≡ record old { are_all = true }) → IsMore old new
more_changed old new place (inl is) q named =
    subst (λ (n : Named). names n q ≡ true) (sym is)
    (or_more old.are_all (is_touched q old.changed) (is_touched q old.ready) _ _ named
    (later_touched q place old.changed) (λ e. e))
more_changed old new place (inr is) q named = all_named new q (ap (λ (n : Named). n.are_all) is)

pub more_ready : (old new : Named) (place : ℕ) → (new ≡ record old { ready = old.ready ++ place ∷ [] })
    ⊎ (new ≡ record old { are_all = true }) → IsMore old new
more_ready old new place (inl is) q named =
    subst (λ (n : Named). names n q ≡ true) (sym is)
    (or_more old.are_all (is_touched q old.changed) (is_touched q old.ready) _ _ named
    (λ e. e) (later_touched q place old.ready))
more_ready old new place (inr is) q named = all_named new q (ap (λ (n : Named). n.are_all) is)

in_first : (a b c : Bool) → b ≡ true → (a || (b || c)) ≡ true
in_first true b c is = refl
in_first false b c is = ap (λ (x : Bool). x || c) is

in_second : (a b c : Bool) → c ≡ true → (a || (b || c)) ≡ true
in_second true b c is = refl
in_second false true c is = refl
in_second false false c is = is

pub added_changed : (old new : Named) (place : ℕ) → (new ≡ record old { changed = old.changed ++ place ∷ [] })
    ⊎ (new ≡ record old { are_all = true }) → names new place ≡ true
added_changed old new place (inl is) =
    subst (λ (n : Named). names n place ≡ true) (sym is)
    (in_first old.are_all (is_touched place (old.changed ++ place ∷ [])) (is_touched place old.ready)
    (last_touched place old.changed))
added_changed old new place (inr is) = all_named new place (ap (λ (n : Named). n.are_all) is)

pub added_ready : (old new : Named) (place : ℕ) → (new ≡ record old { ready = old.ready ++ place ∷ [] })
    ⊎ (new ≡ record old { are_all = true }) → names new place ≡ true
added_ready old new place (inl is) =
    subst (λ (n : Named). names n place ≡ true) (sym is)
    (in_second old.are_all (is_touched place old.changed) (is_touched place (old.ready ++ place ∷ []))
    (last_touched place old.ready))
added_ready old new place (inr is) = all_named new place (ap (λ (n : Named). n.are_all) is)

-- all places are reported
pub more_all : (old new : Named) → new ≡ record old { are_all = true } → IsMore old new
more_all old new is q named = all_named new q (ap (λ (n : Named). n.are_all) is)
