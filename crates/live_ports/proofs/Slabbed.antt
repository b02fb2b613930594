-- The effect of a change of the slab or of the keys on the values of serials.
use Rattle.std.proofs.Common.{◌≡◌, ◌≢◌, ◌⊎◌, ℕ, List, [], slice_index_or, cond, true, false, Bool, Option, None, Some, is_some, option_map, option_and_then, refl, sym, ◌∙◌, ap, inl, inr}
use Rattle.std.proofs.lemmas.Bool.{cases_eq}
use Rattle.std.specs.Cmp.{nat_cmp_total}
use Rattle.std.specs.Ordering.{nat_cmp, eq_by_cmp}
use Rattle.std.specs.FinMap.{empty, get, insert, remove, get-empty, get-insert, get-remove, same_map, nat_cmp-IsAntisymmetric}
use Rattle.slab.specs.Slab as slab
use Rattle.slab.specs.Slab.{Slab, Updates}
use Rattle.ipc_laws.specs.ListLaws.{some_same}
use Rattle.ipc_laws.specs.MapSums.{key_is, same_key}
use Rattle.ipc_model.specs.declared.port.PortState.{PortState}
use Rattle.tracked_map.specs.Slots.{get_picked}
use Rattle.live_ports.specs.PortSlot.{PortSlot}
use Rattle.live_ports.specs.Slabbed.{Keys, by_serial, AreKeyed, IsChangedAt}
use Rattle.live_ports.specs.Tables.{Slots, slot_changed}
use Rattle.live_ports.specs.Touched.{drained}
use Rattle.live_ports.proofs.Slotted.{get_slot}

same : (m n : Slots) → ((q : ℕ) → get m q ≡ get n q) → m ≡ n
same m n alike = same_map nat_cmp_total nat_cmp-IsAntisymmetric m n alike

-- the value of a serial
pub stands : (ports : Slab PortSlot) (keys : Keys) (serial : ℕ) (o : Option ℕ) → get keys serial ≡ o
    → get (by_serial ports keys) serial ≡ option_and_then (slab.get ports) o
stands ports keys serial o is = get_picked (slab.get ports) keys serial ∙ ap (option_and_then (slab.get ports)) is

pub nothing_stands : (ports : Slab PortSlot) (keys : Keys) → keys ≡ empty → by_serial ports keys ≡ empty
nothing_stands ports keys none =
    same _ _ (λ q. stands ports keys q None (ap (λ (m : Keys). get m q) none ∙ get-empty nat_cmp q)
    ∙ sym (get-empty nat_cmp q))

pub nothing_keyed : (ports : Slab PortSlot) (keys : Keys) → ports.slots ≡ [] → keys ≡ empty → AreKeyed ports keys
nothing_keyed ports keys empty_slab none = record {
  found =
      λ key some. absurd (cc (sym some ∙ ap
      (λ (l : List (Option PortSlot)). is_some (slice_index_or l key None)) empty_slab));
  there = λ serial key is. absurd (cc (sym is ∙ ap (λ (m : Keys). get m serial) none ∙ get-empty nat_cmp serial));
  apart =
      λ serial other key is _. absurd (cc (sym is ∙ ap (λ (m : Keys). get m serial) none ∙ get-empty nat_cmp serial));
}

module _ (f : PortSlot → PortSlot) (old new : Slab PortSlot) (keys : Keys) (serial key : ℕ) (keyed : AreKeyed old keys)
    (at : get keys serial ≡ Some key) (changed : IsChangedAt f old new key) where
  pub slot_is_changed : by_serial new keys ≡ slot_changed (by_serial old keys) serial f
  slot_is_changed =
      same _ _ (λ q. get_picked (slab.get new) keys q ∙ go q (get keys q) refl (eq_by_cmp nat_cmp q serial) refl
      ∙ sym (get_slot (by_serial old keys) serial f q ∙
      (λ i. cond (eq_by_cmp nat_cmp q serial) (option_map f (stands old keys serial (Some key) at i))
      (get_picked (slab.get old) keys q i))))
    where
      go : (q : ℕ) (o : Option ℕ) → get keys q ≡ o → (b : Bool) → eq_by_cmp nat_cmp q serial ≡ b
          → option_and_then (slab.get new) o
          ≡ cond b (option_map f (slab.get old key)) (option_and_then (slab.get old) o)
      go q None none true is = absurd (cc (sym none ∙ ap (get keys) (key_is q serial is) ∙ at))
      go q None none false is = refl
      go q (Some k) here true is =
          ap (slab.get new) (some_same k key (sym here ∙ ap (get keys) (key_is q serial is) ∙ at)) ∙ changed.changed
      go q (Some k) here false is =
          changed.others k (λ (e : k ≡ key). cc
          (sym is ∙ ap (λ (n : ℕ). eq_by_cmp nat_cmp n serial) (keyed.apart q serial key (here ∙ ap Some e) at)
          ∙ same_key serial))

  pub keyed_still : AreKeyed new keys
  keyed_still =
      record {
        there = λ other k is. go k (keyed.there other k is);
        apart = keyed.apart;
        found = λ k some. keyed.found k (back k some);
      }
    where
      mapped : (o : Option PortSlot) → is_some (option_map f o) ≡ is_some o
      mapped None = refl
      mapped (Some port) = refl

      back : (k : ℕ) → is_some (slab.get new k) ≡ true → is_some (slab.get old k) ≡ true
      back k some = elim (cases_eq k key) [
        | inl e ↦ ap (λ (n : ℕ). is_some (slab.get old n)) e ∙ sym (mapped (slab.get old key))
            ∙ sym (ap is_some changed.changed) ∙ ap (λ (n : ℕ). is_some (slab.get new n)) (sym e) ∙ some
        | inr e ↦ sym (ap is_some (changed.others k e)) ∙ some
      ]

      go : (k : ℕ) → is_some (slab.get old k) ≡ true → is_some (slab.get new k) ≡ true
      go k there = elim (cases_eq k key) [
        | inl e ↦ ap (λ (n : ℕ). is_some (slab.get new n)) e ∙ ap is_some changed.changed ∙ mapped (slab.get old key)
            ∙ ap (λ (n : ℕ). is_some (slab.get old n)) (sym e) ∙ there
        | inr e ↦ ap is_some (changed.others k e) ∙ there
      ]

-- nothing changes if the serial has no key
pub absent_changed : (f : PortSlot → PortSlot) (ports : Slab PortSlot) (keys : Keys) (serial : ℕ)
    → get keys serial ≡ None → by_serial ports keys ≡ slot_changed (by_serial ports keys) serial f
absent_changed f ports keys serial none =
    sym (ap (λ (o : Option PortSlot). elim o as (λ _. Slots)
    [ None ↦ by_serial ports keys | Some slot ↦ insert (by_serial ports keys) serial (f slot) ])
    (stands ports keys serial None none))

-- a change to the same slot
pub replaced_is : (port : PortSlot) (slots : Slots) (serial : ℕ) → is_some (get slots serial) ≡ true
    → slot_changed slots serial (λ _. port) ≡ insert slots serial port
replaced_is port slots serial some = go (get slots serial) some
  where
    go : (o : Option PortSlot) → is_some o ≡ true
        → ◌≡◌ {A = Slots} (elim o as (λ _. Slots) [ None ↦ slots | Some slot ↦ insert slots serial port ])
        (insert slots serial port)
    go None e = absurd (cc e)
    go (Some slot) e = refl

-- A port is added.
module _ (old new : Slab PortSlot) (keys : Keys) (serial key : ℕ) (port : PortSlot) (keyed : AreKeyed old keys)
    (none : get keys serial ≡ None) (vacant : slab.get old key ≡ None) (updates : Updates old new key (Some port)) where
  used : (other k : ℕ) → get keys other ≡ Some k → k ≢ key
  used other k is e = cc (sym (keyed.there other k is) ∙ ap (λ (n : ℕ). is_some (slab.get old n)) e ∙ ap is_some vacant)

  pub added_is : by_serial new (insert keys serial key) ≡ insert (by_serial old keys) serial port
  added_is =
      same _ _ (λ q. get_picked (slab.get new) (insert keys serial key) q
      ∙ ap (option_and_then (slab.get new)) (get-insert nat_cmp_total keys serial key q)
      ∙ go q (eq_by_cmp nat_cmp q serial) (get keys q) refl
      ∙ sym (get-insert nat_cmp_total (by_serial old keys) serial port q
      ∙ ap (cond (eq_by_cmp nat_cmp q serial) (Some port)) (get_picked (slab.get old) keys q)))
    where
      go : (q : ℕ) (b : Bool) (o : Option ℕ) → get keys q ≡ o
          → option_and_then (slab.get new) (cond b (Some key) o) ≡ cond b (Some port) (option_and_then (slab.get old) o)
      go q true o is = updates.changed
      go q false None is = refl
      go q false (Some k) is = updates.others k (used q k is)

  pub added_keyed : AreKeyed new (insert keys serial key)
  added_keyed = record {
    found = λ k some. found k some;
    there =
        λ other k is. there other k (eq_by_cmp nat_cmp other serial)
        (sym (get-insert nat_cmp_total keys serial key other) ∙ is);
    apart =
        λ one other k is too. apart one other k (eq_by_cmp nat_cmp one serial) refl
        (eq_by_cmp nat_cmp other serial) refl (sym (get-insert nat_cmp_total keys serial key one) ∙ is)
        (sym (get-insert nat_cmp_total keys serial key other) ∙ too);
  }
    where
      found : (k : ℕ) → is_some (slab.get new k) ≡ true → (other : ℕ) × (get (insert keys serial key) other ≡ Some k)
      found k some = elim (cases_eq k key) [
        | inl e ↦ (
          serial,
          get-insert nat_cmp_total keys serial key serial ∙ ap
              (λ (b : Bool). cond b (Some key) (get keys serial)) (same_key serial) ∙ ap Some (sym e),
        )
        | inr e ↦ let one = keyed.found k (sym (ap is_some (updates.others k e)) ∙ some) in (
          one.0,
          get-insert nat_cmp_total keys serial key one.0
              ∙ apart_from one.0 k one.1 (eq_by_cmp nat_cmp one.0 serial) refl,
        )
      ]
        where
          apart_from : (other k : ℕ) → get keys other ≡ Some k → (b : Bool) → eq_by_cmp nat_cmp other serial ≡ b
              → cond b (Some key) (get keys other) ≡ Some k
          apart_from other k is true same = absurd (cc (sym is ∙ ap (get keys) (key_is other serial same) ∙ none))
          apart_from other k is false far = is

      there : (other k : ℕ) (b : Bool) → cond b (Some key) (get keys other) ≡ Some k → is_some (slab.get new k) ≡ true
      there other k true is =
          ap (λ (n : ℕ). is_some (slab.get new n)) (sym (some_same key k is)) ∙ ap is_some updates.changed
      there other k false is = ap is_some (updates.others k (used other k is)) ∙ keyed.there other k is

      apart : (one other k : ℕ) (b : Bool) → eq_by_cmp nat_cmp one serial ≡ b → (d : Bool)
          → eq_by_cmp nat_cmp other serial ≡ d → cond b (Some key) (get keys one) ≡ Some k
          → cond d (Some key) (get keys other) ≡ Some k → one ≡ other
      apart one other k true first true second is too = key_is one serial first ∙ sym (key_is other serial second)
      apart one other k true first false second is too = absurd (used other k too (sym (some_same key k is)))
      apart one other k false first true second is too = absurd (used one k is (sym (some_same key k too)))
      apart one other k false first false second is too = keyed.apart one other k is too

-- A port is removed.
module _ (old new : Slab PortSlot) (keys : Keys) (serial key : ℕ) (keyed : AreKeyed old keys)
    (at : get keys serial ≡ Some key) (updates : Updates old new key None) where
  other_key : (other k : ℕ) → eq_by_cmp nat_cmp other serial ≡ false → get keys other ≡ Some k → k ≢ key
  other_key other k far is e =
      cc (sym far ∙ ap (λ (n : ℕ). eq_by_cmp nat_cmp n serial) (keyed.apart other serial key (is ∙ ap Some e) at)
      ∙ same_key serial)

  pub removed_is : by_serial new (remove keys serial) ≡ remove (by_serial old keys) serial
  removed_is =
      same _ _ (λ q. get_picked (slab.get new) (remove keys serial) q
      ∙ ap (option_and_then (slab.get new)) (get-remove nat_cmp_total keys serial q)
      ∙ go q (eq_by_cmp nat_cmp q serial) refl (get keys q) refl
      ∙ sym (get-remove nat_cmp_total (by_serial old keys) serial q
      ∙ ap (cond (eq_by_cmp nat_cmp q serial) None) (get_picked (slab.get old) keys q)))
    where
      go : (q : ℕ) (b : Bool) → eq_by_cmp nat_cmp q serial ≡ b → (o : Option ℕ) → get keys q ≡ o
          → option_and_then (slab.get new) (cond b None o) ≡ cond b None (option_and_then (slab.get old) o)
      go q true far o is = refl
      go q false far None is = refl
      go q false far (Some k) is = updates.others k (other_key q k far is)

  pub removed_keyed : AreKeyed new (remove keys serial)
  removed_keyed = record {
    found = λ k some. found k some (cases_eq k key);
    there =
        λ other k is. there other k (eq_by_cmp nat_cmp other serial) refl
        (sym (get-remove nat_cmp_total keys serial other) ∙ is);
    apart =
        λ one other k is too. apart one other k (eq_by_cmp nat_cmp one serial) (eq_by_cmp nat_cmp other serial)
        (sym (get-remove nat_cmp_total keys serial one) ∙ is)
        (sym (get-remove nat_cmp_total keys serial other) ∙ too);
  }
    where
      found : (k : ℕ) → is_some (slab.get new k) ≡ true → (k ≡ key) ⊎ (k ≢ key) → (other : ℕ)
          × (get (remove keys serial) other ≡ Some k)
      found k some (inl e) =
          absurd (cc (sym some ∙ ap (λ (n : ℕ). is_some (slab.get new n)) e ∙ ap is_some updates.changed))
      found k some (inr e) =
          let one = keyed.found k (sym (ap is_some (updates.others k e)) ∙ some) in (
            one.0,
            get-remove nat_cmp_total keys serial one.0
                ∙ left one.0 one.1 (eq_by_cmp nat_cmp one.0 serial) refl,
          )
        where
          left : (other : ℕ) → get keys other ≡ Some k → (b : Bool) → eq_by_cmp nat_cmp other serial ≡ b
              → cond b None (get keys other) ≡ Some k
          left other is true same =
              absurd (e (some_same k key (sym is ∙ ap (get keys) (key_is other serial same) ∙ at)))
          left other is false far = is

      there : (other k : ℕ) (b : Bool) → eq_by_cmp nat_cmp other serial ≡ b → cond b None (get keys other) ≡ Some k
          → is_some (slab.get new k) ≡ true
      there other k true far is = absurd (cc is)
      there other k false far is = ap is_some (updates.others k (other_key other k far is)) ∙ keyed.there other k is

      apart : (one other k : ℕ) (b d : Bool) → cond b None (get keys one) ≡ Some k
          → cond d None (get keys other) ≡ Some k → one ≡ other
      apart one other k true d is too = absurd (cc is)
      apart one other k false true is too = absurd (cc too)
      apart one other k false false is too = keyed.apart one other k is too

pub absent_removed : (ports : Slab PortSlot) (keys : Keys) (serial : ℕ)
    → by_serial ports (remove keys serial) ≡ remove (by_serial ports keys) serial
absent_removed ports keys serial =
    same _ _ (λ q. get_picked (slab.get ports) (remove keys serial) q
    ∙ ap (option_and_then (slab.get ports)) (get-remove nat_cmp_total keys serial q)
    ∙ go q (eq_by_cmp nat_cmp q serial)
    ∙ sym (get-remove nat_cmp_total (by_serial ports keys) serial q
    ∙ ap (cond (eq_by_cmp nat_cmp q serial) None) (get_picked (slab.get ports) keys q)))
  where
    go : (q : ℕ) (b : Bool) → option_and_then (slab.get ports) (cond b None (get keys q))
        ≡ cond b None (option_and_then (slab.get ports) (get keys q))
    go q true = refl
    go q false = refl

pub fewer_keyed : (ports : Slab PortSlot) (keys : Keys) (serial : ℕ) → get keys serial ≡ None → AreKeyed ports keys
    → AreKeyed ports (remove keys serial)
fewer_keyed ports keys serial none keyed = record {
  found =
      λ k some. let one = keyed.found k some in (
        one.0,
        get-remove nat_cmp_total keys serial one.0
            ∙ stays one.0 k one.1 (eq_by_cmp nat_cmp one.0 serial) refl,
      );
  there =
      λ other k is. keyed.there other k
      (left other k (eq_by_cmp nat_cmp other serial) (sym (get-remove nat_cmp_total keys serial other) ∙ is));
  apart =
      λ one other k is too. keyed.apart one other k
      (left one k (eq_by_cmp nat_cmp one serial) (sym (get-remove nat_cmp_total keys serial one) ∙ is))
      (left other k (eq_by_cmp nat_cmp other serial) (sym (get-remove nat_cmp_total keys serial other) ∙ too));
}
  where
    stays : (other k : ℕ) → get keys other ≡ Some k → (b : Bool) → eq_by_cmp nat_cmp other serial ≡ b
        → cond b None (get keys other) ≡ Some k
    stays other k is true same = absurd (cc (sym is ∙ ap (get keys) (key_is other serial same) ∙ none))
    stays other k is false far = is

    left : (other k : ℕ) (b : Bool) → cond b None (get keys other) ≡ Some k → get keys other ≡ Some k
    left other k true is = absurd (cc is)
    left other k false is = is

-- a slab with the same values
pub same_values : (old new : Slab PortSlot) (keys : Keys) → new.slots ≡ old.slots → AreKeyed old keys
    → AreKeyed new keys
same_values old new keys is keyed =
    record {
      there = λ serial key at. ap (λ (l : List (Option PortSlot)). is_some (slice_index_or l key None)) is
          ∙ keyed.there serial key at;
      apart = keyed.apart;
      found = λ key some. keyed.found key
          (ap (λ (l : List (Option PortSlot)). is_some (slice_index_or l key None)) (sym is) ∙ some);
    }

-- a slot is settled if it keeps a value, and removed otherwise
pub slot_settled : (look : PortSlot → Option PortState) (settle : PortSlot → PortSlot) (slots : Slots) (serial : ℕ)
    (port : PortSlot) → Some port ≡ get slots serial → is_some (look port) ≡ true
    → slot_changed slots serial settle ≡ drained look settle slots serial
slot_settled look settle slots serial port there some =
    ap (λ (o : Option PortSlot). elim o as (λ _. Slots)
    [ None ↦ slots | Some slot ↦ insert slots serial (settle slot) ]) (sym there)
    ∙ sym (ap (λ (o : Option PortSlot). elim o as (λ _. Slots) [
      | None ↦ slots
      | Some slot ↦ cond (is_some (look slot)) (insert slots serial (settle slot))
          (remove slots serial)
    ]) (sym there)
    ∙ ap (λ (b : Bool). cond b (insert slots serial (settle port)) (remove slots serial)) some)

pub slot_goes : (look : PortSlot → Option PortState) (settle : PortSlot → PortSlot) (slots : Slots) (serial : ℕ)
    (port : PortSlot) → Some port ≡ get slots serial → is_some (look port) ≡ false
    → remove slots serial ≡ drained look settle slots serial
slot_goes look settle slots serial port there none =
    sym (ap (λ (o : Option PortSlot). elim o as (λ _. Slots) [
      | None ↦ slots
      | Some slot ↦ cond (is_some (look slot)) (insert slots serial (settle slot))
          (remove slots serial)
    ]) (sym there)
    ∙ ap (λ (b : Bool). cond b (insert slots serial (settle port)) (remove slots serial)) none)
