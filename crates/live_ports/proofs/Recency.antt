-- The cache of keys, when a place or a key changes.
use Rattle.std.proofs.Common.{◌≡◌, ◌≤◌, ℕ, Bool, true, false, cond, [], Option, None, Some, IfSome, is_some, replicate, arith, refl, sym, ◌∙◌, ap, inl, inr}
use Rattle.std.proofs.lemmas.Bool.{cases_eq, cases_lt}
use Rattle.std.proofs.lemmas.List.{get_or-replicate, get_or_past, length-replicate}
use Rattle.std.specs.Cmp.{nat_cmp_total}
use Rattle.std.specs.Ordering.{nat_cmp, eq_by_cmp}
use Rattle.std.specs.FinMap.{empty, get, insert, remove, get-empty, get-insert, get-remove}
use Rattle.ipc_laws.specs.ListLaws.{some_same}
use Rattle.ipc_laws.specs.MapSums.{key_is, same_key}
use Rattle.live_ports.specs.Slabbed.{Keys}
use Rattle.live_ports.specs.Recent.{Places, at, place_of, AreRecent, IsLast, IsNoted}

-- free places agree with any keys
pub free_recent : (places : Places) (keys : Keys) → ((place : ℕ) → at places place ≡ None) → AreRecent places keys
free_recent places keys free = record { found = λ noted is. absurd (cc (sym is ∙ free (place_of noted.0))) }

-- the key of a serial, from the content of a place
key_of : (serial key : ℕ) (content : Option (ℕ × ℕ)) → IfSome content (λ noted. (noted.0 ≡ serial) × (noted.1 ≡ key))
    → (noted : ℕ × ℕ) → content ≡ Some noted → (noted.0 ≡ serial) × (noted.1 ≡ key)
key_of serial key (Some found) is noted same = (
  ap (λ (n : ℕ × ℕ). n.0) (sym (some_same found noted same)) ∙ is.0,
  ap (λ (n : ℕ × ℕ). n.1) (sym (some_same found noted same)) ∙ is.1,
)
key_of serial key None is noted same = absurd (cc same)

-- A serial gets a key, and its place gets that content.
module _ (old between new : Places) (keys : Keys) (serial key : ℕ) (content : Option (ℕ × ℕ))
    (recent : AreRecent old keys) (alike : (place : ℕ) → at between place ≡ at old place)
    (noting : IsNoted content (place_of serial) between new)
    (is : IfSome content (λ noted. (noted.0 ≡ serial) × (noted.1 ≡ key))) where
  pub inserted_recent : AreRecent new (insert keys serial key)
  inserted_recent =
      record {
        found = λ noted stands. get-insert nat_cmp_total keys serial key noted.0
            ∙ go noted stands (eq_by_cmp nat_cmp noted.0 serial) refl;
      }
    where
      own : (noted : ℕ × ℕ) → at new (place_of noted.0) ≡ Some noted → place_of noted.0 ≡ place_of serial
          → (noted.0 ≡ serial) × (noted.1 ≡ key)
      own noted stands same = key_of serial key content is noted (noting.here noted (ap (at new) (sym same) ∙ stands))

      go : (noted : ℕ × ℕ) → at new (place_of noted.0) ≡ Some noted → (b : Bool) → eq_by_cmp nat_cmp noted.0 serial ≡ b
          → cond b (Some key) (get keys noted.0) ≡ Some noted.1
      go noted stands true equal = ap Some (sym (own noted stands (ap place_of (key_is noted.0 serial equal))).1)
      go noted stands false other = elim (cases_eq (place_of noted.0) (place_of serial)) [
        | inl same ↦ absurd (cc (sym other ∙ ap (λ (n : ℕ). eq_by_cmp nat_cmp n serial) (own noted stands same).0
            ∙ same_key serial))
        | inr apart ↦ recent.found noted
            (sym (noting.others (place_of noted.0) apart ∙ alike (place_of noted.0)) ∙ stands)
      ]

-- A serial with a key is cached again.
module _ (old new : Places) (keys : Keys) (serial key : ℕ) (content : Option (ℕ × ℕ))
    (recent : AreRecent old keys) (has : get keys serial ≡ Some key)
    (noting : IsNoted content (place_of serial) old new)
    (is : IfSome content (λ noted. (noted.0 ≡ serial) × (noted.1 ≡ key))) where
  pub noted_recent : AreRecent new keys
  noted_recent = record {
    found = λ noted stands. elim (cases_eq (place_of noted.0) (place_of serial)) [
      | inl same ↦ own noted (key_of serial key content is noted (noting.here noted (ap (at new) (sym same) ∙ stands)))
      | inr apart ↦ recent.found noted (sym (noting.others (place_of noted.0) apart) ∙ stands)
    ];
  }
    where
      own : (noted : ℕ × ℕ) → (noted.0 ≡ serial) × (noted.1 ≡ key) → get keys noted.0 ≡ Some noted.1
      own noted same = ap (get keys) same.0 ∙ has ∙ ap Some (sym same.1)

-- A serial's key is removed, and its place is freed.
module _ (old new : Places) (keys : Keys) (serial : ℕ) (recent : AreRecent old keys)
    (noting : IsNoted None (place_of serial) old new) where
  pub removed_recent : AreRecent new (remove keys serial)
  removed_recent =
      record {
        found = λ noted stands. get-remove nat_cmp_total keys serial noted.0
            ∙ go noted stands (eq_by_cmp nat_cmp noted.0 serial) refl;
      }
    where
      none : (noted : ℕ × ℕ) → at new (place_of noted.0) ≡ Some noted → place_of noted.0 ≡ place_of serial
          → ◌≡◌ {A = Option (ℕ × ℕ)} None (Some noted)
      none noted stands same = noting.here noted (ap (at new) (sym same) ∙ stands)

      go : (noted : ℕ × ℕ) → at new (place_of noted.0) ≡ Some noted → (b : Bool) → eq_by_cmp nat_cmp noted.0 serial ≡ b
          → cond b None (get keys noted.0) ≡ Some noted.1
      go noted stands true equal = absurd (cc (none noted stands (ap place_of (key_is noted.0 serial equal))))
      go noted stands false other = elim (cases_eq (place_of noted.0) (place_of serial)) [
        | inl same ↦ absurd (cc (none noted stands same))
        | inr apart ↦ recent.found noted (sym (noting.others (place_of noted.0) apart) ∙ stands)
      ]

-- the last serial, as serials are added and removed
pub none_last : (last : ℕ) (keys : Keys) → keys ≡ empty → IsLast last keys
none_last last keys none =
    record {
      bound = λ serial there. absurd
          (cc (sym (ap (λ (m : Keys). is_some (get m serial)) none ∙ ap is_some (get-empty nat_cmp serial)) ∙ there));
    }

pub inserted_last : (last more serial key : ℕ) (keys : Keys) → last ≤ more → serial ≤ more → IsLast last keys
    → IsLast more (insert keys serial key)
inserted_last last more serial key keys le here is =
    record {
      bound = λ other there. go other (eq_by_cmp nat_cmp other serial) refl
          (sym (ap is_some (get-insert nat_cmp_total keys serial key other)) ∙ there);
    }
  where
    go : (other : ℕ) (b : Bool) → eq_by_cmp nat_cmp other serial ≡ b
        → is_some (cond b (Some key) (get keys other)) ≡ true → other ≤ more
    go other true same there = omega (arith, key_is other serial same, here)
    go other false apart there = omega (arith, is.bound other there, le)

pub removed_last : (last serial : ℕ) (keys : Keys) → IsLast last keys → IsLast last (remove keys serial)
removed_last last serial keys is =
    record {
      bound = λ other there. go other (eq_by_cmp nat_cmp other serial)
          (sym (ap is_some (get-remove nat_cmp_total keys serial other)) ∙ there);
    }
  where
    go : (other : ℕ) (b : Bool) → is_some (cond b None (get keys other)) ≡ true → other ≤ last
    go other true there = absurd (cc there)
    go other false there = is.bound other there

pub all_free : (count place : ℕ) → at (replicate count None) place ≡ None
all_free count place =
    let none : Option (ℕ × ℕ) = None in
    elim (cases_lt place count) [
      | inl low ↦ get_or-replicate count place none none low
      | inr past ↦ get_or_past (replicate count none) place none (omega (arith, past, length-replicate count none))
    ]

pub nothing_at : (place : ℕ) → at [] place ≡ None
nothing_at place = get_or_past [] place None (omega arith)

-- an option that can't have a value is None
pub none_alone : (P : Option (ℕ × ℕ) → Type 0) → ((x : ℕ × ℕ) → P (Some x) → ⊥) → (content : Option (ℕ × ℕ)) → P content
    → content ≡ None
none_alone P never None clone = refl
none_alone P never (Some x) clone = absurd (never x clone)
