-- Rows are those of a lawful state exactly if they have a lawful shape, are linked, and have one receive right of each
-- port.
use Rattle.std.proofs.Common.{◌≡◌, inl, ℕ, ◌<◌, ◌^◌, Bool, true, false, cond, T, All, List, [], ◌∷◌, length, map, Some, is_some, refl, sym, ◌∙◌, ap, subst, arith}
use Rattle.std.specs.Prelude.{IsPermutation}
use Rattle.std.specs.List.Sorted.{IsNonDecreasing}
use Rattle.std.specs.Ordering.{nat_cmp, eq_by_cmp}
use Rattle.std.specs.FinMap.{entries, entries_sorted, find, get, get-entries, is_sorted, len, len-entries}
use Rattle.std.specs.FinMap.Entries.{below_all}
use Rattle.std.proofs.lemmas.List.Elements.{All-cons, All-head, All-tail, All-map, All-same}
use Rattle.codes.specs.declared.name.TheConstants.{FIRST_SPACE}
use Rattle.ipc_laws.specs.Dangling.{front_of}
use Rattle.ipc_laws.specs.LawfulLaws.{alone, at_rest}
use Rattle.ipc_laws.specs.MapSums.{key_is, same_key, weigh}
use Rattle.ipc_laws.specs.EffectRanks.{receive_is_any, state_less}
use Rattle.ipc_laws.specs.EffectsKeep.{dangles_none}
use Rattle.ipc_laws.specs.Weights.{receive_of, state_weigh, any_of, count-any, count-receive}
use Rattle.ipc_model.specs.declared.entry.Entry.{Entry}
use Rattle.ipc_model.specs.declared.port.PortState.{PortState}
use Rattle.ipc_model.specs.state.Circular.{Acyclic}
use Rattle.ipc_model.specs.state.Lawful.{Lawful, LawfulMessage, LawfulNames, ShortQueues}
use Rattle.ipc_model.specs.state.Ipc.{Names, Ipc, lives}
use Rattle.snapshot.specs.LawfulSnapshot.{IsLawfulIpc}
use Rattle.snapshot.specs.Ascending.{AscendsFrom}
use Rattle.snapshot.specs.Snapshots.{ipc_snapshot_of}
use Rattle.snapshot.specs.declared.rows.LivePort.{LivePort}
use Rattle.snapshot.specs.declared.rows.IpcSnapshot.{IpcSnapshot}
use Rattle.snapshot.specs.declared.rows.Space.{Space}
use Rattle.snapshot_loading.specs.Holding.{lawful_tight, lawful_well, sets_alongside}
use Rattle.snapshot_loading.specs.Linked.{is_linked, looks_of}
use Rattle.snapshot_loading.specs.LinkLaws.{AreWell, AreTight, all_well, none_dangle, one_named, well_all}
use Rattle.snapshot_loading.specs.ReceiverLaws.{is_one, keys_weigh, receivers_weigh, ascending_climbs, same_climbing, sorted_climbs, weigh_moved}
use Rattle.snapshot_loading.specs.Receivers.{receivers}
use Rattle.snapshot.specs.Rows.{all_entries, each_entry, entries_ascend, map_map, name_of, named_row, number_of, one_state, over, port_row, ascending_keys, serial_of, space_row}
use Rattle.snapshot_loading.specs.Shaped.{BeginsFirst, IsShaped, IsShapedName, IsShapedPort, IsShapedSpace}

length_mapped : {A B : Type 0} (f : A → B) (xs : List A) → length (map f xs) ≡ length xs
length_mapped f [] = refl
length_mapped f (x ∷ xs) = omega (arith, length_mapped f xs)

all_unmapped : {A B : Type 0} (P : B → Type 0) (f : A → B) (xs : List A) → All P (map f xs) → All (λ x. P (f x)) xs
all_unmapped P f [] all = λ k d less. absurd (omega (arith, less))
all_unmapped {A = A} P f (x ∷ xs) all =
    All-cons (λ (y : A). P (f y)) x xs (All-head P (f x) (map f xs) all)
    (all_unmapped P f xs (All-tail P (f x) (map f xs) all))

module _ (state : Ipc) (snapshot : IpcSnapshot) (same : snapshot ≡ ipc_snapshot_of state) where
  spaces_are : snapshot.spaces ≡ map space_row (entries state.spaces)
  unfolding ipc_snapshot_of
  spaces_are = ap (λ (s : IpcSnapshot). s.spaces) same

  ports_are : snapshot.ports ≡ map port_row (entries state.ports)
  unfolding ipc_snapshot_of
  ports_are = ap (λ (s : IpcSnapshot). s.ports) same

  next_is : snapshot.next_serial ≡ state.next
  unfolding ipc_snapshot_of
  next_is = ap (λ (s : IpcSnapshot). s.next_serial) same

  many_ports : length snapshot.ports ≡ len state.ports
  many_ports = ap length ports_are ∙ length_mapped port_row (entries state.ports) ∙ sym (len-entries state.ports)

  -- Rows of a lawful state have a lawful shape.

  module _ (lawful : Lawful state) (short : ShortQueues state) where
    begins : (es : List (ℕ × Names)) → T (is_sorted nat_cmp es)
        → ((k : ℕ) (v : Names) → find nat_cmp k es ≡ Some v → 0 < k) → (names : Names)
        → find nat_cmp FIRST_SPACE es ≡ Some names → BeginsFirst (map space_row es)
    begins [] sorted positive names there = absurd (cc there)
    begins (e ∷ es) sorted positive names there =
        elim (eq_by_cmp nat_cmp FIRST_SPACE e.0)
        as (λ (b : Bool). eq_by_cmp nat_cmp FIRST_SPACE e.0 ≡ b
        → cond b (Some e.1) (find nat_cmp FIRST_SPACE es) ≡ Some names → e.0 ≡ FIRST_SPACE) [
          | true ↦ λ (is : _) (_ : _). sym (key_is FIRST_SPACE e.0 is)
          | false ↦ λ (_ : _) (later : _).
              absurd (omega (
                arith,
                positive e.0 e.1
                    (ap (λ (b : Bool). cond b (Some e.1) (find nat_cmp e.0 es)) (same_key e.0)),
                over e.0 FIRST_SPACE names es (front_of (below_all nat_cmp e.0 es) (is_sorted nat_cmp es) sorted)
                    later,
              ))
        ] refl there

    name_shaped : (names : Names) → LawfulNames names → (name : ℕ) (entry : Entry) → get names name ≡ Some entry
        → IsShapedName (named_row (name, entry))
    name_shaped names own name entry at = let bounds = own.named name entry at in (bounds.1, bounds.2)

    space_shaped : (space : ℕ) (names : Names) → get state.spaces space ≡ Some names
        → IsShapedSpace (space_row (space, names))
    space_shaped space names there =
        let own = lawful.spaces space names there in
        record {
          number = own.1;
          few = omega (arith, own.2.few, len-entries names, length_mapped named_row (entries names));
          ascend =
              subst (AscendsFrom 1) (sym (map_map name_of named_row (entries names)))
              (entries_ascend 1 names (λ k v at. omega (arith, (own.2.named k v at).0)));
          each =
              All-map IsShapedName named_row (entries names)
              (all_entries (λ (e : ℕ × Entry). IsShapedName (named_row e)) names (name_shaped names own.2));
        }

    port_shaped : (serial : ℕ) (port : PortState) → get state.ports serial ≡ Some port
        → IsShapedPort snapshot.next_serial (port_row (serial, port))
    port_shaped serial port there =
        let own =
        lawful.ports serial port there in
        record { below = omega (arith, own.1, next_is); lawful = own.2; short = short serial port there }

    pub shaped : IsShaped snapshot
    shaped = record {
      first =
          subst BeginsFirst (sym spaces_are)
          (begins (entries state.spaces) (entries_sorted state.spaces)
          (λ k v there. (lawful.spaces k v (get-entries state.spaces k ∙ there)).0) lawful.first_space.0
          (sym (get-entries state.spaces FIRST_SPACE) ∙ lawful.first_space.1));
      spaces_ascend =
          subst (λ (rows : List Space). AscendsFrom 1 (map number_of rows)) (sym spaces_are)
          (subst (AscendsFrom 1) (sym (map_map number_of space_row (entries state.spaces)))
          (entries_ascend 1 state.spaces (λ k v there. omega (arith, (lawful.spaces k v there).0))));
      spaces =
          All-same IsShapedSpace snapshot.spaces (map space_row (entries state.spaces)) spaces_are
          (All-map IsShapedSpace space_row (entries state.spaces)
          (all_entries (λ (e : ℕ × Names). IsShapedSpace (space_row e)) state.spaces space_shaped));
      next = omega (arith, lawful.next.0, next_is);
      few_ports = omega (arith, lawful.few_ports, many_ports);
      ports_ascend =
          subst (λ (rows : List LivePort). AscendsFrom 1 (map serial_of rows)) (sym ports_are)
          (subst (AscendsFrom 1) (sym (map_map serial_of port_row (entries state.ports)))
          (entries_ascend 1 state.ports (λ k v there. omega (arith, (lawful.ports k v there).0))));
      ports =
          All-same (IsShapedPort snapshot.next_serial) snapshot.ports (map port_row (entries state.ports)) ports_are
          (All-map (IsShapedPort snapshot.next_serial) port_row (entries state.ports)
          (all_entries (λ (e : ℕ × PortState). IsShapedPort snapshot.next_serial (port_row e)) state.ports
          port_shaped));
    }

  lawful_messages : Lawful state → (serial : ℕ) (port : PortState) → get state.ports serial ≡ Some port
      → All LawfulMessage port.messages
  lawful_messages lawful serial port there = (lawful.ports serial port there).2.messages

  -- the rows of a lawful state are linked
  pub linked : Lawful state → is_linked (looks_of state) snapshot ≡ true
  linked lawful = well_all state snapshot same (lawful_well state lawful) (lawful_tight state lawful)

  -- the ports of its receive rights, sorted, are the live ports
  pub received : Lawful state → (sorted : List ℕ) → IsPermutation (receivers snapshot) sorted → IsNonDecreasing sorted
      → sorted ≡ map serial_of snapshot.ports
  received lawful sorted moved up =
      same_climbing sorted (map serial_of snapshot.ports) (sorted_climbs sorted up)
      (ascending_climbs 1 (map serial_of snapshot.ports)
      (subst (λ (rows : List LivePort). AscendsFrom 1 (map serial_of rows)) (sym ports_are)
      (subst (AscendsFrom 1) (sym (map_map serial_of port_row (entries state.ports)))
      (entries_ascend 1 state.ports (λ k v there. omega (arith, (lawful.ports k v there).0))))))
      (λ s. sym (weigh_moved (is_one s) (receivers snapshot) sorted moved)
      ∙ receivers_weigh state snapshot same (lawful_messages lawful) s ∙ counted s (lives state s) refl
      ∙ sym (keys_weigh state s) ∙ ap
      (λ (rows : List LivePort). weigh (is_one s) (map serial_of rows)) (sym ports_are))
    where
      counted : (s : ℕ) (b : Bool) → lives state s ≡ b → state_weigh (receive_of s) state ≡ cond (lives state s) 1 0
      counted s true live =
          omega (
            arith,
            (at_rest state lawful).one_receive s live,
            count-receive state [] s,
            ap {B = ℕ} (λ (b : Bool). cond b 1 0) live,
          )
      counted s false dead =
          omega (
            arith,
            state_less (receive_of s) (any_of s) (receive_is_any s) state,
            dangles_none state [] (at_rest state lawful) s dead,
            ap {B = ℕ} (λ (b : Bool). cond b 1 0) dead,
          )

  -- Conversely.

  module _ (shape : IsShaped snapshot) where
    space_at : (space : ℕ) (names : Names) → get state.spaces space ≡ Some names
        → IsShapedSpace (space_row (space, names))
    space_at space names there =
        each_entry (λ (e : ℕ × Names). IsShapedSpace (space_row e)) state.spaces space names
        (all_unmapped IsShapedSpace space_row (entries state.spaces)
        (All-same IsShapedSpace (map space_row (entries state.spaces)) snapshot.spaces
        (sym spaces_are) shape.spaces)) there

    port_at : (serial : ℕ) (port : PortState) → get state.ports serial ≡ Some port
        → IsShapedPort snapshot.next_serial (port_row (serial, port))
    port_at serial port there =
        each_entry (λ (e : ℕ × PortState). IsShapedPort snapshot.next_serial (port_row e)) state.ports serial port
        (all_unmapped (IsShapedPort snapshot.next_serial) port_row (entries state.ports)
        (All-same (IsShapedPort snapshot.next_serial) (map port_row (entries state.ports)) snapshot.ports
        (sym ports_are) shape.ports)) there

    lawful_names : AreWell state → (space : ℕ) (names : Names) → get state.spaces space ≡ Some names → LawfulNames names
    lawful_names well space names there =
        let own = space_at space names there in
        record {
          few = omega (arith, own.few, len-entries names, length_mapped named_row (entries names));
          named = λ name entry at.
              let row =
              each_entry (λ (e : ℕ × Entry). IsShapedName (named_row e)) names name entry
              (all_unmapped IsShapedName named_row (entries names) own.each) at in (
                omega (
                  arith,
                  ascending_keys 1 names name entry
                      (subst (AscendsFrom 1) (map_map name_of named_row (entries names)) own.ascend) at,
                ),
                row.0,
                row.1,
              );
          one_name = one_named state well space names there;
        }

    first_there : (rows : List Space) (es : List (ℕ × Names)) → rows ≡ map space_row es → BeginsFirst rows
        → (names : Names) × (find nat_cmp FIRST_SPACE es ≡ Some names)
    first_there rows [] are begins = absurd (subst BeginsFirst are begins)
    first_there rows (e ∷ es) are begins = (
      e.1,
      ap (λ (b : Bool). cond b (Some e.1) (find nat_cmp FIRST_SPACE es))
          (subst (λ (n : ℕ). eq_by_cmp nat_cmp n e.0 ≡ true) (subst BeginsFirst are begins) (same_key e.0)),
    )

    pub short_state : ShortQueues state
    short_state serial port there = (port_at serial port there).short

    -- Linked rows with one receive right of each port are those of a lawful state.
    pub lawful_state : state.next < 2 ^ 64 → is_linked (looks_of state) snapshot ≡ true → (sorted : List ℕ)
        → IsPermutation (receivers snapshot) sorted → sorted ≡ map serial_of snapshot.ports → Lawful state
    lawful_state fits links sorted moved is = alone state (record {
      first_space = (first.0, get-entries state.spaces FIRST_SPACE ∙ first.1);
      spaces =
          λ space names there. (
            omega (
              arith,
              ascending_keys 1 state.spaces space names
                  (subst (AscendsFrom 1) (map_map number_of space_row (entries state.spaces))
                  (subst (λ (rows : List Space). AscendsFrom 1 (map number_of rows)) spaces_are
                  shape.spaces_ascend)) there,
            ),
            (space_at space names there).number,
            lawful_names well space names there,
          );
      ports = λ serial port there.
          let own = port_at serial port there in (
            omega (
              arith,
              ascending_keys 1 state.ports serial port
                  (subst (AscendsFrom 1) (map_map serial_of port_row (entries state.ports))
                  (subst (λ (rows : List LivePort). AscendsFrom 1 (map serial_of rows)) ports_are shape.ports_ascend))
                  there,
            ),
            omega (arith, own.below, next_is),
            own.lawful,
          );
      few_ports = omega (arith, shape.few_ports, many_ports);
      next = (omega (arith, shape.next, next_is), fits);
      one_receive =
          λ serial live. omega (
            arith,
            count-receive state [] serial,
            once serial,
            ap {B = ℕ} (λ (b : Bool). cond b 1 0) live,
          );
      live = λ serial dead. count-any state serial ∙ none_dangle state well tight serial dead;
      waits = tt;
      sets =
          λ serial set port there in_set. inl
          (sets_alongside state well tight messages serial set port there in_set
          (omega (arith, once serial, ap {B = ℕ} (λ (b : Bool). cond b 1 0) (ap is_some there))));
    })
      where
        well : AreWell state
        well = (all_well state snapshot same links).0

        tight : AreTight state
        tight = (all_well state snapshot same links).1

        messages : (serial : ℕ) (port : PortState) → get state.ports serial ≡ Some port
            → All LawfulMessage port.messages
        messages serial port there = (port_at serial port there).lawful.messages

        once : (serial : ℕ) → state_weigh (receive_of serial) state ≡ cond (lives state serial) 1 0
        once serial =
            sym (receivers_weigh state snapshot same messages serial)
            ∙ weigh_moved (is_one serial) (receivers snapshot) sorted moved
            ∙ ap (weigh (is_one serial)) (is ∙ ap (map serial_of) ports_are)
            ∙ keys_weigh state serial

        first : (names : Names) × (find nat_cmp FIRST_SPACE (entries state.spaces) ≡ Some names)
        first = first_there snapshot.spaces (entries state.spaces) spaces_are shape.first

-- A lawful snapshot is of one state, which is lawful and acyclic, with short queues.
pub lawful_one : (state : Ipc) (snapshot : IpcSnapshot) → snapshot ≡ ipc_snapshot_of state → IsLawfulIpc snapshot
    → Lawful state × Acyclic state × ShortQueues state
lawful_one state snapshot same lawful =
    let one : lawful.state ≡ state = one_state lawful.state state (sym lawful.same ∙ same) in
    (subst Lawful one lawful.lawful, subst Acyclic one lawful.acyclic, subst ShortQueues one lawful.short)
