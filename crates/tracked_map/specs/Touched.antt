-- Slots of which only the touched ones may have changed: a commit or rollback looks at these only.
use Rattle.std.proofs.Common.{◌≡◌, ℕ, Bool, true, false, cond, ◌||◌, List, [], ◌∷◌, ◌++◌, length, Option, None, Some, is_some, option_and_then, refl, sym, ◌∙◌, ap, arith}
use Rattle.std.specs.Cmp.{nat_cmp_total, eq_by_cmp_equiv}
use Rattle.std.specs.declared.cmp.Ordering.{Ordering}
use Rattle.std.specs.declared.cmp.Ordering.TheVariants.{Less, Equal, Greater}
use Rattle.std.specs.Ordering.{nat_cmp, eq_by_cmp, is_eq}
use Rattle.std.specs.FinMap.{FinMap, empty, get, insert, remove, get-empty, get-insert, get-remove, same_map, nat_cmp-IsAntisymmetric}
use Rattle.tracked_map.specs.Slots.{picked, get_picked, picked_alike}

-- true if the key is in this list
abbrev pub is_touched : ℕ → List ℕ → Bool
is_touched key [] = false
is_touched key (k ∷ ks) = eq_by_cmp nat_cmp key k || is_touched key ks

pub touched_append : (q : ℕ) (ks ls : List ℕ) → is_touched q (ks ++ ls) ≡ (is_touched q ks || is_touched q ls)
touched_append q [] ls = refl
touched_append q (k ∷ ks) ls =
    elim (eq_by_cmp nat_cmp q k) as (λ (b : Bool). (b || is_touched q (ks ++ ls))
    ≡ ((b || is_touched q ks) || is_touched q ls)) [ true ↦ refl | false ↦ touched_append q ks ls ]

first_off : (a b : Bool) → (a || b) ≡ false → a ≡ false
first_off true b e = absurd (cc e)
first_off false b e = refl

both_off : (a b : Bool) → a ≡ false → b ≡ false → (a || (b || false)) ≡ false
both_off true b e f = absurd (cc e)
both_off false true e f = absurd (cc f)
both_off false false e f = refl

is_equal : (o : Ordering) → is_eq o ≡ true → o ≡ Equal
is_equal Less e = absurd (cc e)
is_equal Equal e = refl
is_equal Greater e = absurd (cc e)

key_same : (q key : ℕ) → eq_by_cmp nat_cmp q key ≡ true → q ≡ key
key_same q key e = nat_cmp-IsAntisymmetric q key (is_equal (nat_cmp q key) e)

some_is : {Y : Type 0} (a b : Y) → Some a ≡ Some b → a ≡ b
some_is a b e = cc e

module _ {X Y : Type 0} where
  -- untouched slots have the same value before and now, and are in use
  abbrev pub AreTouched : (Y → Option X) → (Y → Option X) → FinMap {K = ℕ} nat_cmp Y → List ℕ → Type 0
  AreTouched before current slots touched =
      (key : ℕ) (slot : Y) → get slots key ≡ Some slot → is_touched key touched ≡ false → (before slot ≡ current slot)
      × (is_some (current slot) ≡ true)

  -- the slot of a key, changed by `turn` if `look` gives a value for it, and removed otherwise
  abbrev pub turned : (Y → Option X) → (Y → Y) → FinMap {K = ℕ} nat_cmp Y → ℕ → FinMap {K = ℕ} nat_cmp Y
  turned look turn slots key = elim (get slots key) as (λ _. FinMap {K = ℕ} nat_cmp Y) [
    | None ↦ slots
    | Some slot ↦ cond (is_some (look slot)) (insert slots key (turn slot)) (remove slots key)
  ]

  module _ (before current : Y → Option X) where
    pub none_touched : AreTouched before current empty []
    none_touched key slot at off = absurd (cc (sym (get-empty {K = ℕ} {X = Y} nat_cmp key) ∙ at))

    -- one more key is touched
    pub one_touched : (slots : FinMap {K = ℕ} nat_cmp Y) (touched : List ℕ) (key : ℕ)
        → AreTouched before current slots touched → AreTouched before current slots (touched ++ key ∷ [])
    one_touched slots touched key are q slot at off =
        are q slot at (first_off (is_touched q touched) (is_touched q (key ∷ []))
        (sym (touched_append q touched (key ∷ [])) ∙ off))

    pub last_is_touched : (touched : List ℕ) (key : ℕ) → is_touched key (touched ++ key ∷ []) ≡ true
    last_is_touched touched key =
        touched_append key touched (key ∷ [])
        ∙ at_end (is_touched key touched) (eq_by_cmp nat_cmp key key) (same_key key)
      where
        at_end : (a b : Bool) → b ≡ true → (a || (b || false)) ≡ true
        at_end true b e = refl
        at_end false true e = refl
        at_end false false e = absurd (cc e)

        same_key : (k : ℕ) → eq_by_cmp nat_cmp k k ≡ true
        same_key k = (eq_by_cmp_equiv nat_cmp_total).refl k

    -- a slot with a touched key is changed
    pub put_touched : (slots : FinMap {K = ℕ} nat_cmp Y) (touched : List ℕ) (key : ℕ) (slot : Y)
        → is_touched key touched ≡ true → AreTouched before current slots touched
        → AreTouched before current (insert slots key slot) touched
    put_touched slots touched key slot is are q other at off =
        go (eq_by_cmp nat_cmp q key) refl (sym (get-insert nat_cmp_total slots key slot q) ∙ at)
      where
        go : (b : Bool) → eq_by_cmp nat_cmp q key ≡ b → cond b (Some slot) (get slots q) ≡ Some other
            → (before other ≡ current other) × (is_some (current other) ≡ true)
        go true same _ = absurd (cc (sym is ∙ ap (λ (k : ℕ). is_touched k touched) (sym (key_same q key same)) ∙ off))
        go false _ there = are q other there off

    -- the same with both functions exchanged
    pub exchanged : (slots : FinMap {K = ℕ} nat_cmp Y) (touched : List ℕ) → AreTouched before current slots touched
        → AreTouched current before slots touched
    exchanged slots touched are key slot at off =
        let both = are key slot at off in (sym both.0, ap is_some both.0 ∙ both.1)

    -- no slot is touched: all values are the same before and now
    pub all_alike : (slots : FinMap {K = ℕ} nat_cmp Y) → AreTouched before current slots []
        → picked before slots ≡ picked current slots
    all_alike slots are = picked_alike before current slots (λ key slot at. (are key slot at refl).0)

  -- Slots are turned to the values of one function, so that the other one gives the same.
  module _ (look other : Y → Option X) (turn : Y → Y) (looks : (y : Y) → look (turn y) ≡ look y)
      (follows : (y : Y) → other (turn y) ≡ look y) where
    get_turned : (slots : FinMap {K = ℕ} nat_cmp Y) (key q : ℕ) (o : Option Y) → get slots key ≡ o
        → get (turned look turn slots key) q
        ≡ cond (eq_by_cmp nat_cmp q key)
        (option_and_then (λ (y : Y). cond (is_some (look y)) (Some (turn y)) None) o) (get slots q)
    get_turned slots key q None at =
        ap (λ (o : Option Y). get (elim o as (λ _. FinMap {K = ℕ} nat_cmp Y)
        [ None ↦ slots | Some slot ↦ cond (is_some (look slot)) (insert slots key (turn slot)) (remove slots key) ])
        q) at
        ∙ go (eq_by_cmp nat_cmp q key) refl
      where
        go : (b : Bool) → eq_by_cmp nat_cmp q key ≡ b → get slots q ≡ cond b None (get slots q)
        go true same = ap (get slots) (key_same q key same) ∙ at
        go false _ = refl
    get_turned slots key q (Some slot) at =
        ap (λ (o : Option Y). get (elim o as (λ _. FinMap {K = ℕ} nat_cmp Y)
        [ None ↦ slots | Some slot ↦ cond (is_some (look slot)) (insert slots key (turn slot)) (remove slots key) ])
        q) at
        ∙ go (is_some (look slot))
      where
        go : (b : Bool) → get (cond b (insert slots key (turn slot)) (remove slots key)) q
            ≡ cond (eq_by_cmp nat_cmp q key) (cond b (Some (turn slot)) None) (get slots q)
        go true = get-insert nat_cmp_total slots key (turn slot) q
        go false = get-remove nat_cmp_total slots key q

    -- turning a slot keeps the values of `look`
    pub turned_looks : (slots : FinMap {K = ℕ} nat_cmp Y) (key : ℕ)
        → picked look (turned look turn slots key) ≡ picked look slots
    turned_looks slots key = same_map nat_cmp_total nat_cmp-IsAntisymmetric _ _ (λ q.
        get_picked look (turned look turn slots key) q
        ∙ ap (option_and_then look) (get_turned slots key q (get slots key) refl)
        ∙ go q (eq_by_cmp nat_cmp q key) refl ∙ sym (get_picked look slots q))
      where
        one : (o : Option Y) → option_and_then look
            (option_and_then (λ (y : Y). cond (is_some (look y)) (Some (turn y)) None) o) ≡ option_and_then look o
        one None = refl
        one (Some y) = by (look y) refl
          where
            by : (l : Option X) → look y ≡ l
                → option_and_then look (cond (is_some (look y)) (Some (turn y)) None) ≡ look y
            by None is = ap (λ (l : Option X). option_and_then look (cond (is_some l) (Some (turn y)) None)) is ∙ sym is
            by (Some x) is =
                ap (λ (l : Option X). option_and_then look (cond (is_some l) (Some (turn y)) None)) is ∙ looks y

        go : (q : ℕ) (b : Bool) → eq_by_cmp nat_cmp q key ≡ b
            → option_and_then look (cond b
            (option_and_then (λ (y : Y). cond (is_some (look y)) (Some (turn y)) None) (get slots key))
            (get slots q)) ≡ option_and_then look (get slots q)
        go q true same =
            one (get slots key) ∙ ap (λ (k : ℕ). option_and_then look (get slots k)) (sym (key_same q key same))
        go q false _ = refl

    -- a turned slot needn't be touched any more
    pub turned_touched : (slots : FinMap {K = ℕ} nat_cmp Y) (rest : List ℕ) (key : ℕ)
        → AreTouched other look slots (rest ++ key ∷ []) → AreTouched other look (turned look turn slots key) rest
    turned_touched slots rest key are q slot at off =
        go (eq_by_cmp nat_cmp q key) refl (sym (get_turned slots key q (get slots key) refl) ∙ at)
      where
        turn_is : (o : Option Y) → option_and_then (λ (y : Y). cond (is_some (look y)) (Some (turn y)) None) o
            ≡ Some slot → (other slot ≡ look slot) × (is_some (look slot) ≡ true)
        turn_is None is = absurd (cc is)
        turn_is (Some y) is = by (look y) refl is
          where
            by : (l : Option X) → look y ≡ l → cond (is_some (look y)) (Some (turn y)) None ≡ Some slot
                → (other slot ≡ look slot) × (is_some (look slot) ≡ true)
            by None none some =
                absurd (cc (ap (λ (l : Option X). cond (is_some l) (Some (turn y)) None) (sym none) ∙ some))
            by (Some x) there some =
                let same : turn y ≡ slot =
                some_is (turn y) slot (sym (ap (λ (l : Option X). cond (is_some l) (Some (turn y)) None) there)
                ∙ some) in (
                  ap other (sym same) ∙ follows y ∙ sym (ap look (sym same) ∙ looks y),
                  ap (λ (y : Y). is_some (look y)) (sym same) ∙ ap is_some (looks y ∙ there),
                )

        go : (b : Bool) → eq_by_cmp nat_cmp q key ≡ b
            → cond b (option_and_then (λ (y : Y). cond (is_some (look y)) (Some (turn y)) None) (get slots key))
            (get slots q) ≡ Some slot → (other slot ≡ look slot) × (is_some (look slot) ≡ true)
        go true _ there = turn_is (get slots key) there
        go false apart there =
            are q slot there (touched_append q rest (key ∷ [])
            ∙ both_off (is_touched q rest) (eq_by_cmp nat_cmp q key) off apart)

pub none_left : (ks : List ℕ) → length ks ≡ 0 → ks ≡ []
none_left [] e = refl
none_left (k ∷ ks) e = absurd (omega (arith, e))
