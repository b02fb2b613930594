-- If these are all sessions, each record of a legal history is one of theirs.
use Rattle.std.specs.Prelude.{◌≡◌, ◌≢◌, ℕ, zero, suc, ◌+◌, ◌<◌, ◌≤◌, Bool, true, false, ◌||◌, List, [], ◌∷◌, ◌++◌, length, map, Contains, AllPairs, eqb, slice_index_or, refl}
use Rattle.std.specs.List.{IsDistinct, list_any}
use Rattle.std.specs.Cmp.{nat_eq_equiv}
use Rattle.std.proofs.Common.{ap, arith}
use Rattle.std.proofs.lemmas.Bool.{eqb-true, eqb-false, eq-eqb, ne_eqb}
use Rattle.std.proofs.lemmas.List.Folds.{list_any_at}
use Rattle.std.proofs.lemmas.Map.Keys.{IsDistinct-from_apart}
use Rattle.std.proofs.lemmas.Map.Made.{length-le_from_is_member}
use Rattle.std.proofs.lemmas.Map.Views.{Contains-from_any}
use Rattle.ipc_model.specs.declared.record.Record.{Record}
use Rattle.ipc_model.specs.state.State.{State}
use Rattle.ipc_model.specs.history.History.{Sessions, AllLegal, AreAll, IsLegalHistory, places_of}
use Rattle.ipc_laws.specs.HistoryLaws.{AscendWithin, legal_is_in_order}

-- all of these numbers are in a range
abbrev AllIn : ℕ → ℕ → List ℕ → Type 0
AllIn low high [] = Unit {0}
AllIn low high (place ∷ places) = (low ≤ place) × (place < high) × AllIn low high places

in_wider : (low least high most : ℕ) (places : List ℕ) → least ≤ low → high ≤ most → AllIn low high places
    → AllIn least most places
in_wider low least high most [] down up all = tt
in_wider low least high most (place ∷ places) down up all =
    (omega (arith, down, all.0), omega (arith, up, all.1), in_wider low least high most places down up all.2)

in_both : (low high : ℕ) (places others : List ℕ) → AllIn low high places → AllIn low high others
    → AllIn low high (places ++ others)
in_both low high [] others all more = more
in_both low high (place ∷ places) others all more = (all.0, all.1, in_both low high places others all.2 more)

ascend_le : (least end : ℕ) (places : List ℕ) → AscendWithin least end places → least ≤ end
ascend_le least end [] ascend = ascend
ascend_le least end (place ∷ places) ascend =
    let rest : place + 1 ≤ end = ascend_le (place + 1) end places ascend.1 in omega (arith, rest, ascend.0)

ascend_in : (least end : ℕ) (places : List ℕ) → AscendWithin least end places → AllIn least end places
ascend_in least end [] ascend = tt
ascend_in least end (place ∷ places) ascend =
    let rest : place + 1 ≤ end = ascend_le (place + 1) end places ascend.1 in (
      ascend.0,
      omega (arith, rest),
      in_wider (place + 1) least end end places (omega (arith, ascend.0)) (omega arith)
          (ascend_in (place + 1) end places ascend.1),
    )

places_in : (base : State) (history : List Record) (sessions : Sessions) → AllLegal base history sessions
    → AllIn 0 (length history) (places_of (map (λ session. session.1) sessions))
places_in base history [] legal = tt
places_in base history (first ∷ sessions) legal =
    let order = legal_is_in_order base history first.0 first.1 legal.0 in
    in_both 0 (length history) first.1.places (places_of (map (λ session. session.1) sessions))
    (in_wider 0 0 first.1.seen (length history) first.1.places (omega arith) order.seen
    (ascend_in 0 first.1.seen first.1.places order.places))
    (places_in base history sessions legal.1)

-- a member of numbers in a range is in the range
member_in : (low high q : ℕ) (places : List ℕ) → AllIn low high places → list_any (eqb q) places ≡ true → (low ≤ q)
    × (q < high)
member_in low high q [] all is = absurd (cc is)
member_in low high q (place ∷ places) all is =
    elim (eqb q place) as (λ (b : Bool). eqb q place ≡ b → (b || list_any (eqb q) places) ≡ true → (low ≤ q)
    × (q < high)) [
      | true ↦ λ (here : _) (_ : _).
          (let same : q ≡ place = eqb-true q place here in (omega (arith, same, all.0), omega (arith, same, all.1)))
      | false ↦ λ (_ : _) (later : _). member_in low high q places all.2 later
    ] refl is

-- the numbers of a range
abbrev range : ℕ → ℕ → List ℕ
range low zero = []
range low (suc n) = low ∷ range (low + 1) n

length-range : (low n : ℕ) → length (range low n) ≡ n
length-range low zero = refl
length-range low (suc n) = ap suc (length-range (low + 1) n)

in_range : (low n q : ℕ) → low ≤ q → q < low + n → list_any (eqb q) (range low n) ≡ true
in_range low zero q least below = absurd (omega (arith, least, below))
in_range low (suc n) q least below =
    elim (eqb q low) as (λ (b : Bool). eqb q low ≡ b → (b || list_any (eqb q) (range (low + 1) n)) ≡ true) [
      | true ↦ λ (_ : _). refl
      | false ↦ λ (not_here : _). (let other : q ≢ low = eqb-false q low not_here in
          in_range (low + 1) n q (omega (arith, other, least)) (omega (arith, below)))
    ] refl

-- one more number that isn't among different ones is different from them
differ_more : (place : ℕ) (places : List ℕ) → list_any (eqb place) places ≡ false
    → AllPairs (λ one other. one ≢ other) places
    → (i j : ℕ) (d : ℕ) → i < j → j < length (place ∷ places)
    → eqb (slice_index_or (place ∷ places) i d) (slice_index_or (place ∷ places) j d) ≡ false
differ_more place places absent apart zero zero d before within = absurd (omega (arith, before))
differ_more place places absent apart zero (suc j) d before within =
    let below : j < length places = omega (arith, within) in
    ne_eqb place (slice_index_or places j d)
    (λ (e : place ≡ slice_index_or places j d). absurd
    (cc (absent, list_any_at (eqb place) places j d below (eq-eqb place (slice_index_or places j d) e))))
differ_more place places absent apart (suc i) zero d before within = absurd (omega (arith, before))
differ_more place places absent apart (suc i) (suc j) d before within =
    ne_eqb (slice_index_or places i d) (slice_index_or places j d)
    (apart i j d (omega (arith, before)) (omega (arith, within)))

-- If there are as many different numbers of a range as the range has, they are all of it.
owned : (low most place : ℕ) (places : List ℕ) → AllIn low most places → AllPairs (λ one other. one ≢ other) places
    → low + length places ≡ most → low ≤ place → place < most → list_any (eqb place) places ≡ true
owned low most place places all apart many least below =
    elim (list_any (eqb place) places) as (λ (b : Bool). list_any (eqb place) places ≡ b → b ≡ true) [
      | true ↦ λ (_ : _). refl
      | false ↦ λ (absent : _).
          (let distinct : IsDistinct eqb (place ∷ places) = IsDistinct-from_apart eqb (place ∷ places)
          (differ_more place places absent apart) in
          let few : length (place ∷ places) ≤ length (range low (length places)) =
          length-le_from_is_member nat_eq_equiv (place ∷ places) (range low (length places)) distinct (λ q is.
          (let bounds = member_in low most q (place ∷ places) (least, below, all) is in
          in_range low (length places) q bounds.0 (omega (arith, bounds.1, many)))) in
          absurd (omega (arith, few, length-range low (length places))))
    ] refl

-- If these are all the sessions that there were, each record of a legal history stands at a place of one of them.
abbrev pub RecordsAreOwned : Type 0
RecordsAreOwned =
    (base : State) (history : List Record) (sessions : Sessions) → IsLegalHistory base history sessions
    → AreAll history (map (λ session. session.1) sessions)
    → (place : ℕ) → place < length history → Contains (places_of (map (λ session. session.1) sessions)) place

pub records_are_owned : RecordsAreOwned
records_are_owned base history sessions legal all place below =
    let places : List ℕ = places_of (map (λ session. session.1) sessions) in
    Contains-from_any eqb-true place places
    (owned 0 (length history) place places (places_in base history sessions legal.legal) legal.apart
    (omega (arith, all)) (omega arith) below)
