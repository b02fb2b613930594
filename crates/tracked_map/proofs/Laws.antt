-- Laws of maps whose changes are committed or rolled back.
use Rattle.std.proofs.Common.{◌≡◌, ℕ, zero, suc, ◌+◌, ◌-◌, ◌≤◌, ◌<◌, Bool, true, false, cond, nat_lt, ◌||◌, List, [], ◌∷◌, ◌++◌, length, Option, None, Some, MatchOption, is_some, refl, sym, ◌∙◌, ap, subst, arith}
use Rattle.std.specs.Cmp.{nat_cmp_total, eq_by_cmp_equiv}
use Rattle.std.proofs.lemmas.Bool.{ltb-false, ltb-true}
use Rattle.std.specs.Option.{option_flatten}
use Rattle.std.specs.Ordering.{nat_cmp, eq_by_cmp, is_eq}
use Rattle.std.specs.declared.cmp.Ordering.{Ordering}
use Rattle.std.specs.declared.cmp.Ordering.TheVariants.{Less, Equal, Greater}
use Rattle.std.specs.FinMap.{FinMap, find, empty, entries, get, insert, remove, len, get-entries, get-empty, get-insert, get-remove, len-empty, len-entries, len-insert, len-remove, empty_of_len, same_map, nat_cmp-IsAntisymmetric}
use Rattle.number_map.specs.From.{IsFrom}
use Rattle.tracked_map.specs.Tracked.{put, over, shown, is_among, is_in, is_mark, unmarked, len_after, Tracked, at_rest, HasSlots, AreMarked, AreRemoved, IsSound}

is_equal : (o : Ordering) → is_eq o ≡ true → o ≡ Equal
is_equal Less e = absurd (cc e)
is_equal Equal e = refl
is_equal Greater e = absurd (cc e)

itself_same : (key : ℕ) → eq_by_cmp nat_cmp key key ≡ true
itself_same key = (eq_by_cmp_equiv nat_cmp_total).refl key

key_is : (q key : ℕ) → eq_by_cmp nat_cmp q key ≡ true → q ≡ key
key_is q key e = nat_cmp-IsAntisymmetric q key (is_equal (nat_cmp q key) e)

none_differs : {A : Type 0} (o : Option A) → None ≡ o → is_some o ≡ true → ⊥
none_differs o none some = cc (some, ap is_some none)

few_after : (n : ℕ) (had has : Bool) → len_after n had has ≤ n + 1
few_after n true true = omega arith
few_after n true false = omega arith
few_after n false true = omega arith
few_after n false false = omega arith

either_true : (a b : Bool) → a ≡ true → (a || b) ≡ true
either_true true b e = refl
either_true false b e = absurd (cc e)

or_true : (a b : Bool) → b ≡ true → (a || b) ≡ true
or_true true b e = refl
or_true false b e = e

pub neither : (a b : Bool) → (a || b) ≡ false → (a ≡ false) × (b ≡ false)
neither true b none = absurd (cc none)
neither false b none = (refl, none)

not_last : (a b : Bool) → (a || (b || false)) ≡ true → b ≡ false → a ≡ true
not_last true b e f = refl
not_last false true e f = absurd (cc f)
not_last false false e f = absurd (cc e)

last_false : (a : Bool) → (a || false) ≡ true → a ≡ true
last_false true e = refl
last_false false e = e

-- membership in a list with one more key
in_append : (q k : ℕ) (keys : List ℕ) → is_in q (keys ++ k ∷ []) ≡ (is_in q keys || (eq_by_cmp nat_cmp q k || false))
in_append q k [] = refl
in_append q k (n ∷ keys) =
    elim (eq_by_cmp nat_cmp q n) as (λ (b : Bool). (b || is_in q (keys ++ k ∷ []))
    ≡ ((b || is_in q keys) || (eq_by_cmp nat_cmp q k || false))) [ true ↦ refl | false ↦ in_append q k keys ]

module _ {X : Type 0} where
  flat_cond : (b : Bool) (o : Option X) (p : Option (Option X))
      → option_flatten (cond b (Some o) p) ≡ cond b o (option_flatten p)
  flat_cond true o p = refl
  flat_cond false o p = refl

  get_put : (m : FinMap {K = ℕ} nat_cmp X) (key : ℕ) (o : Option X) (q : ℕ)
      → get (put m key o) q ≡ cond (eq_by_cmp nat_cmp q key) o (get m q)
  get_put m key None q = get-remove nat_cmp_total m key q
  get_put m key (Some value) q = get-insert nat_cmp_total m key value q

  get_over_empty : (es : List (ℕ × Option X)) (q : ℕ) → get (over empty es) q ≡ option_flatten (find nat_cmp q es)
  unfolding over
  get_over_empty [] q = get-empty nat_cmp q
  get_over_empty (e ∷ es) q =
      get_put (over empty es) e.0 e.1 q ∙ ap (cond (eq_by_cmp nat_cmp q e.0) e.1) (get_over_empty es q)
      ∙ sym (flat_cond (eq_by_cmp nat_cmp q e.0) e.1 (find nat_cmp q es))

  pub get_shown : (slots : FinMap {K = ℕ} nat_cmp (Option X)) (q : ℕ)
      → get (shown slots) q ≡ option_flatten (get slots q)
  unfolding shown
  get_shown slots q = get_over_empty (entries slots) q ∙ ap option_flatten (sym (get-entries slots q))

  same : (m n : FinMap {K = ℕ} nat_cmp X) → ((q : ℕ) → get m q ≡ get n q) → m ≡ n
  same m n alike = same_map nat_cmp_total nat_cmp-IsAntisymmetric m n alike

  -- the map after a slot is set
  pub shown_put : (slots : FinMap {K = ℕ} nat_cmp (Option X)) (key : ℕ) (o : Option X)
      → shown (insert slots key o) ≡ put (shown slots) key o
  shown_put slots key o = same _ _ (λ q.
      get_shown (insert slots key o) q ∙ ap option_flatten (get-insert nat_cmp_total slots key o q)
      ∙ flat_cond (eq_by_cmp nat_cmp q key) o (get slots q)
      ∙ sym (get_put (shown slots) key o q ∙ ap (cond (eq_by_cmp nat_cmp q key) o) (get_shown slots q)))

  there : (m : FinMap {K = ℕ} nat_cmp X) (key : ℕ) (o : Option X) (q : ℕ) (b : Bool) → eq_by_cmp nat_cmp q key ≡ b
      → cond b (get m key) (cond b o (get m q)) ≡ get m q
  there m key o q true is = ap (get m) (sym (key_is q key is))
  there m key o q false is = refl

  -- putting the former value back restores the map
  put_again : (m : FinMap {K = ℕ} nat_cmp X) (key : ℕ) (o : Option X) → put (put m key o) key (get m key) ≡ m
  put_again m key o = same _ _ (λ q.
      get_put (put m key o) key (get m key) q ∙ ap (cond (eq_by_cmp nat_cmp q key) (get m key)) (get_put m key o q)
      ∙ there m key o q (eq_by_cmp nat_cmp q key) refl)

  pub over_append : (m : FinMap {K = ℕ} nat_cmp X) (es fs : List (ℕ × Option X))
      → over m (es ++ fs) ≡ over (over m fs) es
  unfolding over
  over_append m [] fs = refl
  over_append m (e ∷ es) fs = ap (λ n. put n e.0 e.1) (over_append m es fs)

  pub among_append : (q : ℕ) (es fs : List (ℕ × Option X)) → is_among q (es ++ fs) ≡ (is_among q es || is_among q fs)
  among_append q [] fs = refl
  among_append q (e ∷ es) fs =
      elim (eq_by_cmp nat_cmp q e.0)
      as (λ (b : Bool). (b || is_among q (es ++ fs)) ≡ ((b || is_among q es) || is_among q fs))
      [ true ↦ refl | false ↦ among_append q es fs ]

  -- Counts.
  len_put : (m : FinMap {K = ℕ} nat_cmp X) (key : ℕ) (o : Option X)
      → len (put m key o) ≡ len_after (len m) (is_some (get m key)) (is_some o)
  len_put m key None = len-remove nat_cmp_total m key
  len_put m key (Some value) = len-insert nat_cmp_total m key value

  len_over : (es : List (ℕ × Option X)) → len (over empty es) ≤ length es
  unfolding over
  len_over [] = omega (arith, len-empty nat_cmp X)
  len_over (e ∷ es) =
      omega (
        arith,
        len_over es,
        len_put (over empty es) e.0 e.1,
        few_after (len (over empty es)) (is_some (get (over empty es) e.0)) (is_some e.1),
      )

  len_shown : (slots : FinMap {K = ℕ} nat_cmp (Option X)) → len (shown slots) ≤ len slots
  unfolding shown
  len_shown slots = omega (arith, len_over (entries slots), len-entries slots)

  has_some : (m : FinMap {K = ℕ} nat_cmp X) (key : ℕ) → is_some (get m key) ≡ true → 0 < len m
  has_some m key some = elim (len m) as (λ (n : ℕ). len m ≡ n → 0 < n) [
    | zero ↦ λ (none : _). absurd (none_differs (get m key)
        (sym (ap (λ n. get n key) (empty_of_len m none) ∙ get-empty nat_cmp key)) some)
    | suc n ↦ λ (_ : _). omega arith
  ] refl

  -- a value is set or removed, and the former one is appended to the list
  pub record IsPut (slots next : FinMap {K = ℕ} nat_cmp (Option X)) (former longer : List (ℕ × Option X)) (key : ℕ)
      (value before : Option X) (n : ℕ) (had has : Bool) : Type 0 where
    pub shows : shown next ≡ put (shown slots) key value
    pub unwound : over (shown next) longer ≡ over (shown slots) former
    pub few : len_after n had has ≤ len next
    pub there : had ≡ true → 0 < n
    pub counts : len_after n had has ≡ len (shown next)

  pub is_put : (slots next : FinMap {K = ℕ} nat_cmp (Option X)) (former longer : List (ℕ × Option X)) (key : ℕ)
      (value before : Option X) (n : ℕ) (had has : Bool)
      → next ≡ insert slots key value → longer ≡ former ++ (key, before) ∷ [] → before ≡ option_flatten (get slots key)
      → n ≡ len (shown slots) → had ≡ is_some before → has ≡ is_some value
      → IsPut slots next former longer key value before n had has
  unfolding over
  is_put slots next former longer key value before n had has at noted was counted had_is has_is =
      let before_is : before ≡ get (shown slots) key = was ∙ sym (get_shown slots key) in
      let shows : shown next ≡ put (shown slots) key value = ap shown at ∙ shown_put slots key value in
      let counts : len_after n had has ≡ len (shown next) =
      ap (λ (b : Bool). len_after n b has) had_is ∙ ap (len_after n (is_some before)) has_is ∙ ap
      (λ (k : ℕ). len_after k (is_some before) (is_some value)) counted ∙ ap
      (λ (o : Option X). len_after (len (shown slots)) (is_some o) (is_some value)) before_is
      ∙ sym (len_put (shown slots) key value) ∙ ap len (sym shows) in
      record {
        shows = shows;
        unwound = ap (over (shown next)) noted ∙ over_append (shown next) former ((key, before) ∷ [])
            ∙ ap (λ (m : FinMap {K = ℕ} nat_cmp X). over m former)
            (ap (λ (m : FinMap {K = ℕ} nat_cmp X). put m key before) shows
            ∙ ap (put (put (shown slots) key value) key) before_is ∙ put_again (shown slots) key value);
        few = omega (arith, counts, len_shown next);
        there =
            λ some. omega (arith, counted, has_some (shown slots) key (ap is_some (sym before_is) ∙ sym had_is ∙ some));
        counts = counts;
      }

  -- the key that was appended last
  noted_key : (q key : ℕ) (former : List (ℕ × Option X)) (before : Option X)
      → is_among q (former ++ (key, before) ∷ []) ≡ (is_among q former || (eq_by_cmp nat_cmp q key || false))
  noted_key q key former before = among_append q former ((key, before) ∷ [])

  kept_put : (slots : FinMap {K = ℕ} nat_cmp (Option X)) (former : List (ℕ × Option X)) (key : ℕ) (value : Option X)
      (q : ℕ) (b : Bool) → eq_by_cmp nat_cmp q key ≡ b → HasSlots slots former
      → (is_among q former || (b || false)) ≡ true
      → is_some (cond b (Some value) (get slots q)) ≡ true
  kept_put slots former key value q true is kept among = refl
  kept_put slots former key value q false is kept among = kept q (last_false (is_among q former) among)

  marked_put : (slots : FinMap {K = ℕ} nat_cmp (Option X)) (former : List (ℕ × Option X)) (key : ℕ) (value : Option X)
      (q : ℕ) (b : Bool) → AreMarked slots former → cond b (Some value) (get slots q) ≡ Some None
      → (is_among q former || (b || false)) ≡ true
  marked_put slots former key value q true marked is = or_true (is_among q former) true refl
  marked_put slots former key value q false marked is = either_true (is_among q former) false (marked q is)

  pub put_sound : (slots next : FinMap {K = ℕ} nat_cmp (Option X)) (former longer : List (ℕ × Option X)) (key : ℕ)
      (value before : Option X) (n n_before : ℕ) (had has : Bool) → next ≡ insert slots key value
      → longer ≡ former ++ (key, before) ∷ []
      → IsSound slots former n n_before
      → IsPut slots next former longer key value before n had has → IsSound next longer (len_after n had has) n_before
  put_sound slots next former longer key value before n n_before had has at noted sound done = record {
    kept = λ (q : ℕ) (among : _). ap is_some (ap (λ m. get m q) at ∙ get-insert nat_cmp_total slots key value q)
        ∙ kept_put slots former key value q (eq_by_cmp nat_cmp q key) refl sound.kept
        (sym (ap (is_among q) noted ∙ noted_key q key former before) ∙ among);
    marked = λ (q : ℕ) (is : _). ap (is_among q) noted ∙ noted_key q key former before
        ∙ marked_put slots former key value q (eq_by_cmp nat_cmp q key) sound.marked
        (sym (ap (λ m. get m q) at ∙ get-insert nat_cmp_total slots key value q) ∙ is);
    counted = done.counts;
    counted_before = sound.counted_before ∙ ap len (sym done.unwound);
  }

  -- setting a key's own value, or removing a key without a value, changes nothing
  set_again : (m : FinMap {K = ℕ} nat_cmp X) (key : ℕ) (value : X) → get m key ≡ Some value → insert m key value ≡ m
  set_again m key value is =
      same _ _ (λ q. get-insert nat_cmp_total m key value q ∙ at q (eq_by_cmp nat_cmp q key) refl)
    where
      at : (q : ℕ) (b : Bool) → eq_by_cmp nat_cmp q key ≡ b → cond b (Some value) (get m q) ≡ get m q
      at q true here = sym (ap (get m) (key_is q key here) ∙ is)
      at q false other = refl

  without_none : (m : FinMap {K = ℕ} nat_cmp X) (key : ℕ) → get m key ≡ None → remove m key ≡ m
  without_none m key is = same _ _ (λ q. get-remove nat_cmp_total m key q ∙ at q (eq_by_cmp nat_cmp q key) refl)
    where
      at : (q : ℕ) (b : Bool) → eq_by_cmp nat_cmp q key ≡ b → cond b None (get m q) ≡ get m q
      at q true here = sym (ap (get m) (key_is q key here) ∙ is)
      at q false other = refl

  nothing_shown : shown (empty {K = ℕ} {X = Option X} {R = nat_cmp}) ≡ empty
  nothing_shown =
      same _ _ (λ q. get_shown empty q ∙ ap option_flatten (get-empty nat_cmp q) ∙ sym (get-empty nat_cmp q))

  -- nothing was set, and the list is empty
  pub nothing_sound : (slots : FinMap {K = ℕ} nat_cmp (Option X)) (former : List (ℕ × Option X)) → slots ≡ empty
      → former ≡ [] → IsSound slots former 0 0
  unfolding over
  nothing_sound slots former none no_former =
      let shows : shown slots ≡ empty = ap shown none ∙ nothing_shown in
      record {
        kept = λ q among. absurd (cc (sym (ap (is_among q) no_former) ∙ among));
        marked = λ q is. absurd (cc (sym (ap (λ m. get m q) none ∙ get-empty nat_cmp q) ∙ is));
        counted = sym (len-empty nat_cmp X) ∙ ap len (sym shows);
        counted_before = sym (len-empty nat_cmp X) ∙ ap len (sym (ap (over (shown slots)) no_former ∙ shows));
      }

  pub nothing_seen : (slots : FinMap {K = ℕ} nat_cmp (Option X)) (former : List (ℕ × Option X)) → slots ≡ empty
      → former ≡ [] → (over (shown slots) former ≡ empty) × (shown slots ≡ empty)
  unfolding over
  nothing_seen slots former none no_former =
      let shows : shown slots ≡ empty = ap shown none ∙ nothing_shown in
      (ap (over (shown slots)) no_former ∙ shows, shows)

  pub both : (b c d e : FinMap {K = ℕ} nat_cmp X) → b ≡ d → c ≡ e
      → ◌≡◌ {A = Tracked X} (record { before = b; current = c }) (record { before = d; current = e })
  both b c d e first second =
      ap (λ (m : FinMap {K = ℕ} nat_cmp X). record { before = m; current = c }) first ∙ ap
      (λ (m : FinMap {K = ℕ} nat_cmp X). record { before = d; current = m }) second

  -- the last former value is written back
  pub record IsWritten (slots next : FinMap {K = ℕ} nat_cmp (Option X))
      (former rest shorter : List (ℕ × Option X)) : Type 0 where
    pub shows : over (shown next) shorter ≡ over (shown slots) rest
    pub kept : HasSlots next shorter
    pub marked : AreMarked next former

  is_some_cond : (b : Bool) (o : Option X) (p : Option (Option X)) → is_some p ≡ true
      → is_some (cond b (Some o) p) ≡ true
  is_some_cond true o p e = refl
  is_some_cond false o p e = e

  marked_cond : (former : List (ℕ × Option X)) (q key : ℕ) (o : Option X) (p : Option (Option X)) (b : Bool)
      → eq_by_cmp nat_cmp q key ≡ b → is_among key former ≡ true → (p ≡ Some None → is_among q former ≡ true)
      → cond b (Some o) p ≡ Some None → is_among q former ≡ true
  marked_cond former q key o p true same among marked is = ap (λ (k : ℕ). is_among k former) (key_is q key same) ∙ among
  marked_cond former q key o p false same among marked is = marked is

  pub is_written : (slots next : FinMap {K = ℕ} nat_cmp (Option X)) (former rest shorter : List (ℕ × Option X))
      (key : ℕ) (value : Option X) → next ≡ insert slots key value → rest ≡ shorter ++ (key, value) ∷ []
      → HasSlots slots rest → AreMarked slots former → ((q : ℕ) → is_among q rest ≡ true → is_among q former ≡ true)
      → IsWritten slots next former rest shorter
  unfolding over
  is_written slots next former rest shorter key value at is kept marked within =
      let among : (q : ℕ) → is_among q rest ≡ (is_among q shorter || (eq_by_cmp nat_cmp q key || false)) =
      λ q. ap (is_among q) is ∙ noted_key q key shorter value in
      let itself : is_among key rest ≡ true =
      among key ∙ ap (λ (b : Bool). is_among key shorter || (b || false)) (itself_same key)
      ∙ or_true (is_among key shorter) true refl in
      record {
        shows =
            ap (λ (m : FinMap {K = ℕ} nat_cmp X). over m shorter) (ap shown at ∙ shown_put slots key value)
            ∙ sym (over_append (shown slots) shorter ((key, value) ∷ [])) ∙ ap (over (shown slots)) (sym is);
        kept = λ q there. ap is_some (ap (λ m. get m q) at ∙ get-insert nat_cmp_total slots key value q)
            ∙ is_some_cond (eq_by_cmp nat_cmp q key) value (get slots q)
            (kept q (among q ∙ either_true (is_among q shorter) (eq_by_cmp nat_cmp q key || false) there));
        marked =
            λ q none. marked_cond former q key value (get slots q) (eq_by_cmp nat_cmp q key) refl (within key itself)
            (marked q) (sym (ap (λ m. get m q) at ∙ get-insert nat_cmp_total slots key value q) ∙ none);
      }

  -- the removal of a slot without a value
  same_without : (slots : FinMap {K = ℕ} nat_cmp (Option X)) (key : ℕ) → get slots key ≡ Some None
      → shown (remove slots key) ≡ shown slots
  same_without slots key is = same _ _ (λ q.
      get_shown (remove slots key) q ∙ ap option_flatten (get-remove nat_cmp_total slots key q)
      ∙ unseen q (eq_by_cmp nat_cmp q key) refl ∙ sym (get_shown slots q))
    where
      unseen : (q : ℕ) (b : Bool) → eq_by_cmp nat_cmp q key ≡ b
          → option_flatten (cond b None (get slots q)) ≡ option_flatten (get slots q)
      unseen q true same = sym (ap option_flatten (ap (get slots) (key_is q key same) ∙ is))
      unseen q false same = refl

  -- a slot without a value that remains
  still_marked : (slots : FinMap {K = ℕ} nat_cmp (Option X)) (key q : ℕ) (b : Bool) → eq_by_cmp nat_cmp q key ≡ b
      → cond b None (get slots q) ≡ Some None → (get slots q ≡ Some None) × (eq_by_cmp nat_cmp q key ≡ false)
  still_marked slots key q true same is = absurd (cc is)
  still_marked slots key q false same is = (is, same)

  pub record IsUnmarked (slots next : FinMap {K = ℕ} nat_cmp (Option X)) (shorter : List (ℕ × Option X)) : Type 0 where
    pub shows : shown next ≡ shown slots
    pub marked : AreMarked next shorter

  pub is_unmarked : (slots next : FinMap {K = ℕ} nat_cmp (Option X)) (former shorter : List (ℕ × Option X)) (key : ℕ)
      (value : Option X) → next ≡ unmarked slots key → former ≡ shorter ++ (key, value) ∷ [] → AreMarked slots former
      → IsUnmarked slots next shorter
  is_unmarked slots next former shorter key value at is marked =
      let among : (q : ℕ) → is_among q former ≡ (is_among q shorter || (eq_by_cmp nat_cmp q key || false)) =
      λ q. ap (is_among q) is ∙ noted_key q key shorter value in
      let others : ((q : ℕ) → get slots q ≡ Some None → eq_by_cmp nat_cmp q key ≡ false → is_among q shorter ≡ true) =
      λ q none other. not_last (is_among q shorter) (eq_by_cmp nat_cmp q key)
      (sym (among q) ∙ marked q none) other in
      subst (λ (m : FinMap {K = ℕ} nat_cmp (Option X)). IsUnmarked slots m shorter) (sym at)
      (elim (get slots key) as (λ (o : Option (Option X)). get slots key ≡ o
      → IsUnmarked slots (elim o as (λ _. FinMap {K = ℕ} nat_cmp (Option X)) [
        | None ↦ slots
        | Some there ↦ elim there as (λ _. FinMap {K = ℕ} nat_cmp (Option X))
            [ None ↦ remove slots key | Some _ ↦ slots ]
      ]) shorter) [
        | None ↦ λ (here : _). record {
          shows = refl;
          marked = λ q none. others q none (differs slots q key none (λ same. cc (sym same ∙ here)));
        }
        | Some there ↦ elim there as (λ (o : Option X). get slots key ≡ Some o
            → IsUnmarked slots (elim o as (λ _. FinMap {K = ℕ} nat_cmp (Option X))
            [ None ↦ remove slots key | Some _ ↦ slots ]) shorter) [
              | None ↦ λ (here : _). record {
                shows = same_without slots key here;
                marked =
                    λ q none. let left = still_marked slots key q (eq_by_cmp nat_cmp q key) refl
                    (sym (get-remove nat_cmp_total slots key q) ∙ none) in others q left.0 left.1;
              }
              | Some value ↦ λ (here : _). record {
                shows = refl;
                marked = λ q none. others q none (differs slots q key none (λ same. cc (sym same ∙ here)));
              }
            ]
      ] refl)
    where
      differs : (m : FinMap {K = ℕ} nat_cmp (Option X)) (q k : ℕ) → get m q ≡ Some None → (get m k ≡ Some None → ⊥)
          → eq_by_cmp nat_cmp q k ≡ false
      differs m q k none not = elim (eq_by_cmp nat_cmp q k) as (λ (b : Bool). eq_by_cmp nat_cmp q k ≡ b → b ≡ false) [
        | true ↦ λ (same : _). absurd (not (sym (ap (get m) (key_is q k same)) ∙ none))
        | false ↦ λ (_ : _). refl
      ] refl

  -- the list is empty after all was written back
  pub rest_sound : (slots : FinMap {K = ℕ} nat_cmp (Option X)) (former : List (ℕ × Option X)) (n : ℕ) → former ≡ []
      → AreMarked slots [] → n ≡ len (shown slots) → IsSound slots former n n
  unfolding over
  rest_sound slots former n none marked counted =
      subst (λ (es : List (ℕ × Option X)). IsSound slots es n n) (sym none)
      (record { kept = λ q among. absurd (cc among); marked = marked; counted = counted; counted_before = counted })

  pub rest_seen : (slots : FinMap {K = ℕ} nat_cmp (Option X)) (former : List (ℕ × Option X)) → former ≡ []
      → ◌≡◌ {A = Tracked X} (record { before = over (shown slots) former; current = shown slots })
      (at_rest (shown slots))
  unfolding over
  rest_seen slots former none = both _ _ _ _ (ap (over (shown slots)) none) refl

  pub got : (slots : FinMap {K = ℕ} nat_cmp (Option X)) (key : ℕ) (found : Option (Option X)) (value : Option X)
      → found ≡ get slots key → option_flatten found ≡ value → value ≡ get (shown slots) key
  got slots key found value is flat = sym flat ∙ ap option_flatten is ∙ sym (get_shown slots key)

  pub over_none : (m : FinMap {K = ℕ} nat_cmp X) (es : List (ℕ × Option X)) → length es ≡ 0 → over m es ≡ m
  unfolding over
  over_none m [] none = refl
  over_none m (e ∷ es) none = absurd (omega (arith, none))

  pub last_among : (rest before : List (ℕ × Option X)) (key : ℕ) (value : Option X) → rest ≡ before ++ (key, value) ∷ []
      → is_among key rest ≡ true
  last_among rest before key value is =
      ap (is_among key) is ∙ noted_key key key before value ∙ ap
      (λ (b : Bool). is_among key before || (b || false)) (itself_same key)
      ∙ or_true (is_among key before) true refl

  pub rest_among : (rest before : List (ℕ × Option X)) (key : ℕ) (value : Option X) (q : ℕ)
      → rest ≡ before ++ (key, value) ∷ [] → is_among q before ≡ true → is_among q rest ≡ true
  rest_among rest before key value q is among =
      ap (is_among q) is ∙ noted_key q key before value
      ∙ either_true (is_among q before) (eq_by_cmp nat_cmp q key || false) among

  -- the keys skipped in the search for the next value
  abbrev pub Passed : FinMap {K = ℕ} nat_cmp X → ℕ → ℕ → Type 0
  Passed m from at = (key : ℕ) → from ≤ key → key < at → get m key ≡ None

  unseen_where : (slots : FinMap {K = ℕ} nat_cmp (Option X)) (key : ℕ) → get slots key ≡ None
      → get (shown slots) key ≡ None
  unseen_where slots key none = get_shown slots key ∙ ap option_flatten none

  pub passed_more : (slots : FinMap {K = ℕ} nat_cmp (Option X)) (from at next : ℕ) → Passed (shown slots) from at
      → ((key : ℕ) → at ≤ key → key < next → get slots key ≡ None) → Passed (shown slots) from next
  passed_more slots from at next passed none key le below =
      elim (nat_lt key at) as (λ (b : Bool). nat_lt key at ≡ b → get (shown slots) key ≡ None) [
        | true ↦ λ (before : _). passed key le (ltb-true key at before)
        | false ↦ λ (beyond : _). unseen_where slots key (none key (ltb-false key at beyond) below)
      ] refl

  -- a slot without a value is skipped
  pub passed_mark : (slots : FinMap {K = ℕ} nat_cmp (Option X)) (from at : ℕ) (slot : Option X)
      → get slots at ≡ Some slot → ((value : X) → slot ≡ Some value → ⊥) → Passed (shown slots) from at
      → Passed (shown slots) from (at + 1)
  passed_mark slots from at slot is none passed key le below =
      elim (nat_lt key at) as (λ (b : Bool). nat_lt key at ≡ b → get (shown slots) key ≡ None) [
        | true ↦ λ (before : _). passed key le (ltb-true key at before)
        | false ↦ λ (beyond : _).
            let same : key ≡ at = omega (arith, ltb-false key at beyond, below) in
            ap (get (shown slots)) same ∙ get_shown slots at ∙ ap option_flatten is ∙ no_value slot none
      ] refl
    where
      no_value : (o : Option X) → ((value : X) → o ≡ Some value → ⊥) → o ≡ None
      no_value None none = refl
      no_value (Some value) none = absurd (none value refl)

  pub same_passed : (m n : FinMap {K = ℕ} nat_cmp X) (from at : ℕ) → m ≡ n → Passed m from at → Passed n from at
  same_passed m n from at is passed = subst (λ k. Passed k from at) is passed

  -- a slot without a value is skipped, with all keys before it
  pub passed_slot : (slots : FinMap {K = ℕ} nat_cmp (Option X)) (m : FinMap {K = ℕ} nat_cmp X) (from at key : ℕ)
      (slot : Option X) → shown slots ≡ m → Passed m from at → get slots key ≡ Some slot
      → ((q : ℕ) → at ≤ q → q < key → get slots q ≡ None) → ((value : X) → slot ≡ Some value → ⊥)
      → Passed m from (key + 1)
  passed_slot slots m from at key slot seen passed is below none =
      same_passed _ _ from (key + 1) seen
      (passed_mark slots from key slot is none
      (passed_more slots from at key (same_passed _ _ from at (sym seen) passed) below))

  -- a walk over the slots from a key on: the remaining slots; no slot before them had a value
  pub record Goes (m : FinMap {K = ℕ} nat_cmp X) (from : ℕ) (rest : List (ℕ × Option X)) : Type 0 where
    pub slots : FinMap {K = ℕ} nat_cmp (Option X)
    pub seen : shown slots ≡ m
    pub at : ℕ
    pub from_on : from ≤ at
    pub passed : Passed m from at
    pub left : IsFrom slots at rest

  pub goes_off : (m : FinMap {K = ℕ} nat_cmp X) (slots : FinMap {K = ℕ} nat_cmp (Option X)) (from : ℕ)
      (rest : List (ℕ × Option X)) → shown slots ≡ m → IsFrom slots from rest → Goes m from rest
  goes_off m slots from rest seen left =
      record {
        slots = slots;
        seen = seen;
        at = from;
        from_on = omega arith;
        passed = λ key le below. absurd (omega (arith, le, below));
        left = left;
      }

  -- a slot without a value is skipped
  pub goes_on : (m : FinMap {K = ℕ} nat_cmp X) (from key : ℕ) (slot : Option X) (all rest : List (ℕ × Option X))
      → all ≡ (key, slot) ∷ rest → ((value : X) → slot ≡ Some value → ⊥) → Goes m from all → Goes m from rest
  goes_on m from key slot all rest is none goes =
      let left : IsFrom goes.slots goes.at ((key, slot) ∷ rest) = subst (IsFrom goes.slots goes.at) is goes.left in
      record {
        slots = goes.slots;
        seen = goes.seen;
        at = key + 1;
        from_on = omega (arith, goes.from_on, left.0);
        passed = passed_slot goes.slots m from goes.at key slot goes.seen goes.passed left.2 left.1 none;
        left = left.3;
      }

  -- there is no slot before the next one
  pub goes_before : (m : FinMap {K = ℕ} nat_cmp X) (from key : ℕ) (slot : Option X) (all rest : List (ℕ × Option X))
      → all ≡ (key, slot) ∷ rest → Goes m from all → Passed m from key
  goes_before m from key slot all rest is goes =
      let left : IsFrom goes.slots goes.at ((key, slot) ∷ rest) = subst (IsFrom goes.slots goes.at) is goes.left in
      same_passed _ _ from key goes.seen
      (passed_more goes.slots from goes.at key (same_passed _ _ from goes.at (sym goes.seen) goes.passed) left.1)

  -- the first slot with a value has the least key
  pub goes_to : (m : FinMap {K = ℕ} nat_cmp X) (from key : ℕ) (slot : Option X) (value : X)
      (all rest : List (ℕ × Option X)) → all ≡ (key, slot) ∷ rest → slot ≡ Some value → Goes m from all
      → (from ≤ key) × (get m key ≡ Some value) × Passed m from key
  goes_to m from key slot value all rest is some goes =
      let left : IsFrom goes.slots goes.at ((key, slot) ∷ rest) = subst (IsFrom goes.slots goes.at) is goes.left in (
        omega (arith, goes.from_on, left.0),
        ap (λ n. get n key) (sym goes.seen) ∙ sym (got goes.slots key (Some slot) (Some value) (sym left.2) some),
        goes_before m from key slot all rest is goes,
      )

  -- there is no slot after the last one
  pub goes_out : (m : FinMap {K = ℕ} nat_cmp X) (from key : ℕ) (all : List (ℕ × Option X)) → all ≡ [] → Goes m from all
      → from ≤ key → get m key ≡ None
  goes_out m from key all none goes le =
      let left : IsFrom goes.slots goes.at [] = subst (IsFrom goes.slots goes.at) none goes.left in
      same_passed _ _ from (key + 1) goes.seen
      (passed_more goes.slots from goes.at (key + 1) (same_passed _ _ from goes.at (sym goes.seen) goes.passed)
      (λ q from_on _. left q from_on)) key le (omega arith)

module _ {X : Type 0} where
  -- if there are as many values as slots, no slot is without one
  pub none_marked : (slots : FinMap {K = ℕ} nat_cmp (Option X)) (n : ℕ) → len slots ≡ n → n ≡ len (shown slots)
      → AreMarked slots []
  none_marked slots n as_many counted key is =
      let gone : len (remove slots key) ≡ len slots - 1 =
      len-remove nat_cmp_total slots key ∙ ap
      (λ (o : Option (Option X)). len_after (len slots) (is_some o) false) is in
      let left : len (shown (remove slots key)) ≡ len (shown slots) = ap len (same_without slots key is) in
      absurd (omega (
        arith,
        as_many,
        counted,
        gone,
        left,
        len_shown (remove slots key),
        has_some {X = Option X} slots key (ap is_some is),
      ))

-- a slot whose value, if it had one, was taken
pub taken_out : {X : Type 0} (slots : FinMap {K = ℕ} nat_cmp (Option X)) (key : ℕ) (slot left taken : Option X)
    → get slots key ≡ Some slot → taken ≡ slot → left ≡ None
    → MatchOption taken (insert slots key left ≡ slots) (λ _. insert slots key left ≡ insert slots key None)
taken_out slots key slot left None there was gone =
    ap (insert slots key) gone ∙ set_again slots key None (there ∙ ap Some (sym was))
taken_out slots key slot left (Some value) there was gone = ap (insert slots key) gone

-- removing a key without a value changes nothing
pub none_removed : {X : Type 0} (slots : FinMap {K = ℕ} nat_cmp (Option X)) (key : ℕ)
    → option_flatten (get slots key) ≡ None → remove (shown slots) key ≡ shown slots
none_removed slots key none = without_none (shown slots) key (get_shown slots key ∙ none)

module _ {X : Type 0} where
  -- no keys were removed yet
  pub none_removed_yet : (slots : FinMap {K = ℕ} nat_cmp (Option X)) (keys : List ℕ) → keys ≡ [] → AreMarked slots []
      → AreRemoved slots keys
  none_removed_yet slots keys none marked =
      subst (AreRemoved slots) (sym none)
      (record { each = λ q among. absurd (cc among); all = λ q is. absurd (cc (marked q is)) })

  -- a value is set in a slot that has one
  pub set_removed : (slots next : FinMap {K = ℕ} nat_cmp (Option X)) (keys : List ℕ) (key : ℕ) (value : X)
      (found : Option (Option X)) → found ≡ get slots key → is_mark found ≡ false → next ≡ insert slots key (Some value)
      → AreRemoved slots keys → AreRemoved next keys
  set_removed slots next keys key value found was other at removed = subst (λ m. AreRemoved m keys) (sym at) (record {
    each =
        λ q among. get-insert nat_cmp_total slots key (Some value) q
        ∙ kept q (eq_by_cmp nat_cmp q key) refl (removed.each q among);
    all = λ q is. left q (eq_by_cmp nat_cmp q key) (sym (get-insert nat_cmp_total slots key (Some value) q) ∙ is);
  })
    where
      kept : (q : ℕ) (b : Bool) → eq_by_cmp nat_cmp q key ≡ b → get slots q ≡ Some None
          → cond b (Some (Some value)) (get slots q) ≡ Some None
      kept q true same is = absurd (cc (sym other ∙ ap is_mark (was ∙ sym (ap (get slots) (key_is q key same)) ∙ is)))
      kept q false same is = is

      left : (q : ℕ) (b : Bool) → cond b (Some (Some value)) (get slots q) ≡ Some None → is_in q keys ≡ true
      left q true is = absurd (cc is)
      left q false is = removed.all q is

  -- one more key is removed
  pub more_removed : (slots next : FinMap {K = ℕ} nat_cmp (Option X)) (keys longer : List ℕ) (key : ℕ)
      → next ≡ insert slots key None → longer ≡ keys ++ key ∷ [] → AreRemoved slots keys → AreRemoved next longer
  more_removed slots next keys longer key at is removed =
      subst (λ m. AreRemoved m longer) (sym at) (subst (AreRemoved (insert slots key None)) (sym is) (record {
        each =
            λ q among. get-insert nat_cmp_total slots key None q
            ∙ kept q (eq_by_cmp nat_cmp q key) (sym (in_append q key keys) ∙ among);
        all =
            λ q none. in_append q key keys
            ∙ left q (eq_by_cmp nat_cmp q key) (sym (get-insert nat_cmp_total slots key None q) ∙ none);
      }))
    where
      kept : (q : ℕ) (b : Bool) → (is_in q keys || (b || false)) ≡ true → cond b (Some None) (get slots q) ≡ Some None
      kept q true among = refl
      kept q false among = removed.each q (last_false (is_in q keys) among)

      left : (q : ℕ) (b : Bool) → cond b (Some None) (get slots q) ≡ Some None → (is_in q keys || (b || false)) ≡ true
      left q true none = or_true (is_in q keys) true refl
      left q false none = either_true (is_in q keys) false (removed.all q none)

  -- the slots that remain to be removed: none of them has a value
  pub record AreLeft (slots : FinMap {K = ℕ} nat_cmp (Option X)) (keys : List ℕ) : Type 0 where
    pub empty : (key : ℕ) → is_in key keys ≡ true → (value : X) → get slots key ≡ Some (Some value) → ⊥
    pub all : (key : ℕ) → get slots key ≡ Some None → is_in key keys ≡ true

  pub all_left : (slots : FinMap {K = ℕ} nat_cmp (Option X)) (keys : List ℕ) → AreRemoved slots keys
      → AreLeft slots keys
  all_left slots keys removed =
      record { empty = λ q among value has. cc (sym has ∙ removed.each q among); all = removed.all }

  pub record IsGone (slots next : FinMap {K = ℕ} nat_cmp (Option X)) (shorter : List ℕ) : Type 0 where
    pub shows : shown next ≡ shown slots
    pub left : AreLeft next shorter

  pub is_gone : (slots next : FinMap {K = ℕ} nat_cmp (Option X)) (keys shorter : List ℕ) (key : ℕ)
      → next ≡ remove slots key → keys ≡ shorter ++ key ∷ [] → AreLeft slots keys → IsGone slots next shorter
  is_gone slots next keys shorter key at is left = subst (λ m. IsGone slots m shorter) (sym at) (record {
    shows = by (get slots key) refl;
    left = record {
      empty =
          λ q among value has. none q (eq_by_cmp nat_cmp q key) value among
          (sym (get-remove nat_cmp_total slots key q) ∙ has);
      all =
          λ q none. let still = still_marked slots key q (eq_by_cmp nat_cmp q key) refl
          (sym (get-remove nat_cmp_total slots key q) ∙ none) in
          not_last (is_in q shorter) (eq_by_cmp nat_cmp q key) (sym (among_all q) ∙ left.all q still.0) still.1;
    };
  })
    where
      among_all : (q : ℕ) → is_in q keys ≡ (is_in q shorter || (eq_by_cmp nat_cmp q key || false))
      among_all q = ap (is_in q) is ∙ in_append q key shorter

      none : (q : ℕ) (b : Bool) (value : X) → is_in q shorter ≡ true → cond b None (get slots q) ≡ Some (Some value) → ⊥
      none q true value among has = cc has
      none q false value among has =
          left.empty q (among_all q ∙ either_true (is_in q shorter) (eq_by_cmp nat_cmp q key || false) among) value has

      last : is_in key keys ≡ true
      last =
          among_all key ∙ ap (λ (b : Bool). is_in key shorter || (b || false)) (itself_same key)
          ∙ or_true (is_in key shorter) true refl

      by : (o : Option (Option X)) → get slots key ≡ o → shown (remove slots key) ≡ shown slots
      by None here = ap shown (without_none {X = Option X} slots key here)
      by (Some None) here = same_without slots key here
      by (Some (Some value)) here = absurd (left.empty key last value here)

  pub none_left : (slots : FinMap {K = ℕ} nat_cmp (Option X)) (keys : List ℕ) → length keys ≡ 0 → AreLeft slots keys
      → AreMarked slots []
  none_left slots [] no_keys left = λ q is. absurd (cc (left.all q is))
  none_left slots (k ∷ keys) no_keys left = absurd (omega (arith, no_keys))
