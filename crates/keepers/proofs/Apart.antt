-- No place belongs to two sessions with different numbers.
use Rattle.std.proofs.Common.{◌≡◌, ◌≢◌, ◌⊎◌, ℕ, zero, suc, ◌+◌, ◌<◌, ◌≤◌, List, [], ◌∷◌, ◌++◌, length, Some, refl, sym, subst, ◌∙◌, inl, inr, arith}
use Rattle.std.specs.Prelude.{AllPairs, option_map, slice_get, slice_index_or}
use Rattle.std.proofs.lemmas.List.{append-nil}
use Rattle.history.specs.declared.entry.Entry.{Entry}
use Rattle.ipc_laws.specs.HistoryLaws.{AscendWithin}
use Rattle.ipc_model.specs.history.History.{Session, AreApart}
use Rattle.keepers.specs.Tokens.{AreOwn}

some_is : {A : Type 0} (a b : A) → Some a ≡ Some b → a ≡ b
some_is a b e = cc e

got_at : (xs : List ℕ) (j d : ℕ) → j < length xs → slice_get xs j ≡ Some (slice_index_or xs j d)
got_at [] j d within = absurd (omega (arith, within))
got_at (x ∷ xs) zero d within = refl
got_at (x ∷ xs) (suc j) d within = got_at xs j d (omega (arith, within))

apart_more : (x : ℕ) (xs : List ℕ) → ((k place : ℕ) → slice_get xs k ≡ Some place → x ≢ place)
    → AllPairs (λ one other. one ≢ other) xs → AllPairs (λ one other. one ≢ other) (x ∷ xs)
apart_more x xs absent apart zero zero d before within = absurd (omega (arith, before))
apart_more x xs absent apart zero (suc j) d before within =
    absent j (slice_index_or xs j d) (got_at xs j d (omega (arith, within)))
apart_more x xs absent apart (suc i) zero d before within = absurd (omega (arith, before))
apart_more x xs absent apart (suc i) (suc j) d before within =
    apart i j d (omega (arith, before)) (omega (arith, within))

risen : (least end : ℕ) (places : List ℕ) (k place : ℕ) → AscendWithin least end places
    → slice_get places k ≡ Some place → least ≤ place
risen least end [] k place ascend at = absurd (cc at)
risen least end (first ∷ places) zero place ascend at = omega (arith, ascend.0, some_is first place at)
risen least end (first ∷ places) (suc k) place ascend at =
    omega (arith, ascend.0, risen (first + 1) end places k place ascend.1 at)

got_of_two : (xs ys : List ℕ) (k place : ℕ) → slice_get (xs ++ ys) k ≡ Some place
    → ((n : ℕ) × (slice_get xs n ≡ Some place)) ⊎ ((n : ℕ) × (slice_get ys n ≡ Some place))
got_of_two [] ys k place at = inr (k, at)
got_of_two (x ∷ xs) ys zero place at = inl (zero, at)
got_of_two (x ∷ xs) ys (suc k) place at = go (got_of_two xs ys k place at)
  where
    go : ((n : ℕ) × (slice_get xs n ≡ Some place)) ⊎ ((n : ℕ) × (slice_get ys n ≡ Some place))
        → ((n : ℕ) × (slice_get (x ∷ xs) n ≡ Some place)) ⊎ ((n : ℕ) × (slice_get ys n ≡ Some place))
    go (inl one) = inl (suc one.0, one.1)
    go (inr other) = inr other

-- at none of these places stands an entry of this session
abbrev pub AreForeign : List Entry → ℕ → List ℕ → Type 0
AreForeign entries number places =
    (k place : ℕ) → slice_get places k ≡ Some place
    → option_map (λ e. e.session) (slice_get entries place) ≡ Some number → ⊥

-- A session's places and those of others.
pub apart_alongside : (entries : List Entry) (number least end : ℕ) (places others : List ℕ)
    → AscendWithin least end places → AreOwn entries number places → AreForeign entries number others
    → AllPairs (λ one other. one ≢ other) others
    → AllPairs (λ one other. one ≢ other) (places ++ others)
apart_alongside entries number least end [] others ascend own foreign apart = apart
apart_alongside entries number least end (place ∷ places) others ascend own foreign apart =
    apart_more place (places ++ others)
    (λ k other at. go other (got_of_two places others k other at))
    (apart_alongside entries number (place + 1) end places others ascend.1
    (λ i p at. own (suc i) p at) foreign apart)
  where
    go : (other : ℕ) → ((n : ℕ) × (slice_get places n ≡ Some other)) ⊎ ((n : ℕ) × (slice_get others n ≡ Some other))
        → place ≢ other
    go other (inl one) same = absurd (omega (arith, same, risen (place + 1) end places one.0 other ascend.1 one.1))
    go other (inr one) same =
        foreign one.0 other one.1 (subst
        (λ (p : ℕ). option_map (λ e. e.session) (slice_get entries p) ≡ Some number) same (own zero place refl))

pub none_apart : AllPairs (λ (one : ℕ) (other : ℕ). one ≢ other) []
none_apart i j d before within = absurd (omega (arith, within))

-- places of a session with another number
pub foreign_to : (entries : List Entry) (number other : ℕ) (places : List ℕ) → number ≢ other
    → AreOwn entries other places → AreForeign entries number places
foreign_to entries number other places differ own k place at there =
    differ (some_is number other (sym there ∙ own k place at))

-- Two sessions of one history are apart.
pub two_apart : (entries : List Entry) (number other least end lower upper : ℕ) (one two : Session) → number ≢ other
    → AscendWithin least end one.places → AreOwn entries number one.places → AscendWithin lower upper two.places
    → AreOwn entries other two.places
    → AreApart (one ∷ two ∷ [])
two_apart entries number other least end lower upper one two differ ascend own ascend_too own_too =
    let second =
    apart_alongside entries other lower upper two.places [] ascend_too own_too
    (λ k place at there. absurd (cc at)) none_apart in
    apart_alongside entries number least end one.places (two.places ++ []) ascend own
    (subst (AreForeign entries number) (sym (append-nil two.places))
    (foreign_to entries number other two.places differ own_too)) second

-- places of several sessions with other numbers
pub none_foreign : (entries : List Entry) (number : ℕ) → AreForeign entries number []
none_foreign entries number k place at there = cc at

pub foreign_both : (entries : List Entry) (number : ℕ) (places others : List ℕ) → AreForeign entries number places
    → AreForeign entries number others → AreForeign entries number (places ++ others)
foreign_both entries number places others one two k place at there = go (got_of_two places others k place at)
  where
    go : ((n : ℕ) × (slice_get places n ≡ Some place)) ⊎ ((n : ℕ) × (slice_get others n ≡ Some place)) → ⊥
    go (inl here) = one here.0 place here.1 there
    go (inr beyond) = two beyond.0 place beyond.1 there
