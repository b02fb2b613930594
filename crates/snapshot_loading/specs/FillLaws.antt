-- A state filled from the rows of a snapshot is the state of the snapshot.
use Rattle.std.proofs.Common.{◌≡◌, ℕ, ◌+◌, ◌-◌, ◌<◌, ◌≤◌, ◌^◌, ◌==◌, Bool, true, false, cond, All, List, [], ◌∷◌, ◌++◌, length, map, Option, None, Some, is_some, option_map, option_and_then, append_assoc, append-nil, refl, sym, ◌∙◌, ap, subst, arith}
use Rattle.std.specs.List.{list_all}
use Rattle.std.specs.Cmp.{nat_cmp_total}
use Rattle.std.specs.Ordering.{nat_cmp, eq_by_cmp, is_eq}
use Rattle.std.specs.FinMap as finmap
use Rattle.std.specs.FinMap.{FinMap, empty, entries, find, get, insert, len, put, entries-insert, get-entries, get-insert, len-empty, len-insert, same_entries_map}
use Rattle.std.specs.declared.cmp.Ordering.{Ordering}
use Rattle.std.specs.declared.cmp.Ordering.TheVariants.{Less, Equal, Greater}
use Rattle.std.specs.FinMap.Entries.{by_order}
use Rattle.std.proofs.lemmas.Bool.{eq-eqb, le-ltb}
use Rattle.std.proofs.lemmas.List.Elements.{All-head, All-tail, All-weaker}
use Rattle.codes.specs.declared.limits.TheConstants.{MAX_NAMES, MAX_PORTS}
use Rattle.ipc_laws.specs.MapLaws.{get-here, get-map_values}
use Rattle.ipc_laws.specs.MapSums.{entries-map_values, insert-insert, insert-same, key_is, same_key}
use Rattle.ipc_model.specs.calls.PortCalls.{names_in}
use Rattle.ipc_model.specs.declared.entry.Entry.{Entry}
use Rattle.ipc_model.specs.declared.entry.Entry.TheVariants.{Port, SendOnce, Set, Dead}
use Rattle.ipc_model.specs.declared.message.CarriedRight.{CarriedRight}
use Rattle.ipc_model.specs.declared.message.Message.{Message}
use Rattle.ipc_model.specs.declared.message.PortInMessage.{PortInMessage}
use Rattle.ipc_model.specs.declared.message.PortInMessage.TheVariants as in_message
use Rattle.ipc_model.specs.declared.message.PortInMessage.TheVariants.{Null, Live}
use Rattle.ipc_model.specs.declared.port.PortState.{PortState}
use Rattle.ipc_model.specs.effects.Effects.{map_values, queued}
use Rattle.ipc_model.specs.state.Ipc.{Names, Ipc, lives, new_port, with_entry, with_names, with_port}
use Rattle.ipc_state.specs.Running.{Running}
use Rattle.ipc_model.specs.state.Lawful.{LawfulEntry}
use Rattle.ipc_state.specs.Live.{carries_live, is_live, is_live_port, is_live_reply}
use Rattle.ipc_state.specs.Passed.{numbers_of, with_numbers, PortNumbers, AreFewReferences}
use Rattle.snapshot.specs.Ascending.{AscendsFrom}
use Rattle.snapshot.specs.declared.rows.LivePort.{LivePort}
use Rattle.snapshot.specs.declared.rows.NamedEntry.{NamedEntry}
use Rattle.snapshot.specs.declared.rows.IpcSnapshot.{IpcSnapshot}
use Rattle.snapshot.specs.declared.rows.Space.{Space}
use Rattle.snapshot_loading.specs.Filling.{emptied, filled_all, named_all, opened, opened_all, queued_all, spaced, spaced_all}
use Rattle.snapshot_loading.specs.Linked.{Looks, is_linked_message, is_linked_row, is_live_place, is_live_target, looks_of, replies_well, travels_well}
use Rattle.snapshot_loading.specs.LinkLaws.{both_hold, first_holds, second_holds, true_of}
use Rattle.snapshot.specs.Rows.{AreUnder, entries_of, entry_of, greater, key_of, map_map, map_of, names_in_rows, number_of, port_in_row, put_all, serial_of, space_of, state_of_rows, under_last, under_more}
use Rattle.snapshot_loading.specs.Shaped.{IsShapedName, IsShapedPort, IsShapedSpace}

-- Ports.

abbrev pub emptied_in_row : LivePort → ℕ × PortState
emptied_in_row row = (row.serial, emptied row.state)

-- the precondition of adding the ports of these rows
pub record MayOpen (rows : List LivePort) (state : Ipc) : Type 0 where
  pub few : len state.ports + length rows ≤ MAX_PORTS
  pub below : (k : ℕ) (port : PortState) → get state.ports k ≡ Some port → k < state.next
  pub ascend : AscendsFrom state.next (map serial_of rows)
  pub fits : All (λ (row : LivePort). row.serial < 2 ^ 64 - 1) rows

pub none_from : (state : Ipc) (k : ℕ) → ((k : ℕ) (port : PortState) → get state.ports k ≡ Some port → k < state.next)
    → state.next ≤ k → get state.ports k ≡ None
none_from state k below past =
    elim (get state.ports k) as (λ (o : Option PortState). get state.ports k ≡ o → o ≡ None) [
      | None ↦ λ (_ : _). refl
      | Some port ↦ λ (is : _). absurd (omega (arith, past, below k port is))
    ] refl

pub may_open_next : (row : LivePort) (rows : List LivePort) (state : Ipc) → MayOpen (row ∷ rows) state
    → MayOpen rows (opened row state)
may_open_next row rows state may = record {
  few = omega (arith, may.few, more);
  below =
      λ k port is. within k port (eq_by_cmp nat_cmp k row.serial) refl
      (sym (get-insert nat_cmp_total state.ports row.serial (emptied row.state) k) ∙ is);
  ascend = may.ascend.1;
  fits = All-tail (λ (r : LivePort). r.serial < 2 ^ 64 - 1) row rows may.fits;
}
  where
    more : len (insert state.ports row.serial (emptied row.state)) ≡ len state.ports + 1
    more =
        len-insert nat_cmp_total state.ports row.serial (emptied row.state) ∙ ap
        (λ (o : Option PortState). cond (is_some o) (len state.ports) (len state.ports + 1))
        (none_from state row.serial may.below may.ascend.0)

    within : (k : ℕ) (port : PortState) (b : Bool) → eq_by_cmp nat_cmp k row.serial ≡ b
        → cond b (Some (emptied row.state)) (get state.ports k) ≡ Some port → k < row.serial + 1
    within k port true same is = omega (arith, key_is k row.serial same)
    within k port false apart is = omega (arith, may.below k port is, may.ascend.0)

pub opened_ports : (rows : List LivePort) (state : Ipc)
    → (opened_all rows state).ports ≡ put_all (map emptied_in_row rows) state.ports
opened_ports [] state = refl
opened_ports (row ∷ rows) state = opened_ports rows (opened row state)

pub opened_spaces : (rows : List LivePort) (state : Ipc) → (opened_all rows state).spaces ≡ state.spaces
opened_spaces [] state = refl
opened_spaces (row ∷ rows) state = opened_spaces rows (opened row state)

pub opened_next : (next : ℕ) (rows : List LivePort) (state : Ipc) → state.next ≤ next → All (IsShapedPort next) rows
    → (opened_all rows state).next ≤ next
opened_next next [] state le all = le
opened_next next (row ∷ rows) state le all =
    opened_next next rows (opened row state) (omega (arith, (All-head (IsShapedPort next) row rows all).below))
    (All-tail (IsShapedPort next) row rows all)

-- a new port that gets its numbers
pub opened_is : (state : Ipc) (row : LivePort)
    → with_port (record state { ports = insert state.ports row.serial new_port; next = row.serial + 1 }) row.serial
    (with_numbers (numbers_of row.state)) ≡ opened row state
opened_is state row =
    ap (λ (o : Option PortState). elim o as (λ _. Ipc) [
      | None ↦ new
      | Some port ↦ record new
          { ports = insert new.ports row.serial (with_numbers (numbers_of row.state) port) }
    ])
    (get-here state.ports row.serial new_port)
    ∙ ap (λ (m : FinMap {K = ℕ} nat_cmp PortState). record state { ports = m; next = row.serial + 1 })
    (insert-insert state.ports row.serial new_port (emptied row.state))
  where
    new : Ipc
    new = record state { ports = insert state.ports row.serial new_port; next = row.serial + 1 }

-- Spaces.

pub named_is : (space : ℕ) (rows : List NamedEntry) (state : Ipc) (names : Names)
    → get state.spaces space ≡ Some names
    → named_all space rows state ≡ with_names state space (put_all (map entry_of rows) names)
named_is space [] state names there =
    ap (λ (m : FinMap {K = ℕ} nat_cmp Names). record state { spaces = m })
    (sym (insert-same state.spaces space names there))
named_is space (row ∷ rows) state names there =
    ap (named_all space rows) one
    ∙ named_is space rows (with_names state space (insert names row.name row.entry)) (insert names row.name row.entry)
    (get-here state.spaces space (insert names row.name row.entry))
    ∙ ap (λ (m : FinMap {K = ℕ} nat_cmp Names). record state { spaces = m })
    (insert-insert state.spaces space (insert names row.name row.entry)
    (put_all (map entry_of rows) (insert names row.name row.entry)))
  where
    one : with_entry state space row.name row.entry ≡ with_names state space (insert names row.name row.entry)
    one =
        ap (λ (o : Option Names). elim o as (λ _. Ipc)
        [ None ↦ state | Some n ↦ with_names state space (insert n row.name row.entry) ]) there

pub spaced_is : (row : Space) (state : Ipc) → spaced row state ≡ with_names state row.number (names_in_rows row.names)
spaced_is row state =
    named_is row.number row.names (with_names state row.number empty) empty (get-here state.spaces row.number empty)
    ∙ ap (λ (m : FinMap {K = ℕ} nat_cmp Names). record state { spaces = m })
    (insert-insert state.spaces row.number empty (names_in_rows row.names))

pub spaced_all_is : (rows : List Space) (state : Ipc)
    → spaced_all rows state ≡ record state { spaces = put_all (map space_of rows) state.spaces }
spaced_all_is [] state = refl
spaced_all_is (row ∷ rows) state =
    ap (spaced_all rows) (spaced_is row state)
    ∙ spaced_all_is rows (with_names state row.number (names_in_rows row.names))

-- the precondition of adding these names to a space
pub record MayName (space : ℕ) (rows : List NamedEntry) (state : Ipc) : Type 0 where
  pub names : Names
  pub there : get state.spaces space ≡ Some names
  pub few : len names + length rows ≤ MAX_NAMES
  pub each : All (λ (row : NamedEntry). AreFewReferences row.entry) rows

pub may_name_next : (space : ℕ) (row : NamedEntry) (rows : List NamedEntry) (state : Ipc)
    → MayName space (row ∷ rows) state → MayName space rows (with_entry state space row.name row.entry)
may_name_next space row rows state may =
    subst (MayName space rows) (sym
    (ap (λ (o : Option Names). elim o as (λ _. Ipc)
    [ None ↦ state | Some n ↦ with_names state space (insert n row.name row.entry) ]) may.there)) (record {
      names = insert may.names row.name row.entry;
      there = get-here state.spaces space (insert may.names row.name row.entry);
      few =
          omega (
            arith,
            may.few,
            len-insert nat_cmp_total may.names row.name row.entry,
            one_more (finmap.contains_key may.names row.name) (len may.names),
          );
      each = All-tail (λ (r : NamedEntry). AreFewReferences r.entry) row rows may.each;
    })
  where
    one_more : (b : Bool) (n : ℕ) → cond b n (n + 1) ≤ n + 1
    one_more true n = omega arith
    one_more false n = omega arith

-- the precondition of adding the spaces of these rows
pub record MaySpace (rows : List Space) (state : Ipc) : Type 0 where
  pub from : ℕ
  pub below : (k : ℕ) (names : Names) → get state.spaces k ≡ Some names → k < from
  pub ascend : AscendsFrom from (map number_of rows)
  pub few : len state.spaces + 1 ≤ from
  pub each : All IsShapedSpace rows

pub may_space_unused : (row : Space) (rows : List Space) (state : Ipc) → MaySpace (row ∷ rows) state
    → get state.spaces row.number ≡ None
may_space_unused row rows state may =
    elim (get state.spaces row.number) as (λ (o : Option Names). get state.spaces row.number ≡ o → o ≡ None) [
      | None ↦ λ (_ : _). refl
      | Some names ↦ λ (is : _). absurd (omega (arith, may.ascend.0, may.below row.number names is))
    ] refl

pub may_space_next : (row : Space) (rows : List Space) (state : Ipc) → MaySpace (row ∷ rows) state
    → MaySpace rows (spaced row state)
may_space_next row rows state may = subst (MaySpace rows) (sym (spaced_is row state)) (record {
  from = row.number + 1;
  below =
      λ k names is. within k names (eq_by_cmp nat_cmp k row.number) refl
      (sym (get-insert nat_cmp_total state.spaces row.number (names_in_rows row.names) k) ∙ is);
  ascend = may.ascend.1;
  few =
      omega (
        arith,
        may.few,
        may.ascend.0,
        len-insert nat_cmp_total state.spaces row.number (names_in_rows row.names) ∙ ap
            (λ (o : Option Names). cond (is_some o) (len state.spaces) (len state.spaces + 1))
            (may_space_unused row rows state may),
      );
  each = All-tail IsShapedSpace row rows may.each;
})
  where
    within : (k : ℕ) (names : Names) (b : Bool) → eq_by_cmp nat_cmp k row.number ≡ b
        → cond b (Some (names_in_rows row.names)) (get state.spaces k) ≡ Some names → k < row.number + 1
    within k names true same is = omega (arith, key_is k row.number same)
    within k names false apart is = omega (arith, may.below k names is, may.ascend.0)

-- Messages.

queued_one : (serial : ℕ) (message : Message) (state : Ipc) (port : PortState) → get state.ports serial ≡ Some port
    → queued state serial message ≡ record state
    { ports = insert state.ports serial (record port { messages = port.messages ++ message ∷ [] }) }
queued_one serial message state port there =
    ap (λ (o : Option PortState). elim o as (λ _. Ipc) [
      | None ↦ state
      | Some p ↦ record state
          { ports = insert state.ports serial (record p { messages = p.messages ++ message ∷ [] }) }
    ]) there

pub queued_is : (serial : ℕ) (messages : List Message) (state : Ipc) (port : PortState)
    → get state.ports serial ≡ Some port
    → queued_all serial messages state
    ≡ record state { ports = insert state.ports serial (record port { messages = port.messages ++ messages }) }
queued_is serial [] state port there =
    ap (λ (m : FinMap {K = ℕ} nat_cmp PortState). record state { ports = m })
    (sym (insert-same state.ports serial port there) ∙ ap
    (λ (ms : List Message). insert state.ports serial (record port { messages = ms }))
    (sym (append-nil port.messages)))
queued_is serial (message ∷ messages) state port there =
    ap (queued_all serial messages) (queued_one serial message state port there)
    ∙ queued_is serial messages (record state { ports = insert state.ports serial more }) more
    (get-here state.ports serial more)
    ∙ ap (λ (m : FinMap {K = ℕ} nat_cmp PortState). record state { ports = m })
    (insert-insert state.ports serial more (record port { messages = (port.messages ++ message ∷ []) ++ messages })
    ∙ ap (λ (ms : List Message). insert state.ports serial (record port { messages = ms }))
    (append_assoc port.messages (message ∷ []) messages))
  where
    more : PortState
    more = record port { messages = port.messages ++ message ∷ [] }

-- an entry that replaces another
same_cmp : (k : ℕ) → nat_cmp k k ≡ Equal
same_cmp k =
    ap (λ (b : Bool). cond b Less (cond (k == k) Equal Greater)) (le-ltb k k (omega arith))
    ∙ ap (λ (b : Bool). cond b Equal Greater) (eq-eqb k k refl)

module _ {X : Type 0} where
  put_there : (done rest : List (ℕ × X)) (k : ℕ) (w v : X) → AreUnder k done
      → put nat_cmp k v (done ++ (k, w) ∷ rest) ≡ done ++ (k, v) ∷ rest
  put_there [] rest k w v under =
      ap (λ (r : Ordering). by_order r ((k, v) ∷ (k, w) ∷ rest) ((k, v) ∷ rest) ((k, w) ∷ put nat_cmp k v rest))
      (same_cmp k)
  put_there (e ∷ done) rest k w v under =
      ap (λ (r : Ordering). by_order r ((k, v) ∷ e ∷ (done ++ (k, w) ∷ rest)) ((e.0, v) ∷ (done ++ (k, w) ∷ rest))
      (e ∷ put nat_cmp k v (done ++ (k, w) ∷ rest))) (greater k e.0 under.0)
      ∙ ap (λ (xs : List (ℕ × X)). e ∷ xs) (put_there done rest k w v under.1)

  find_there : (done rest : List (ℕ × X)) (k : ℕ) (w : X) → AreUnder k done
      → find nat_cmp k (done ++ (k, w) ∷ rest) ≡ Some w
  find_there [] rest k w under = ap (λ (b : Bool). cond b (Some w) (find nat_cmp k rest)) (same_key k)
  find_there (e ∷ done) rest k w under =
      ap (λ (r : Ordering). cond (is_eq r) (Some e.1) (find nat_cmp k (done ++ (k, w) ∷ rest))) (greater k e.0 under.0)
      ∙ find_there done rest k w under.1

-- The messages of ports, port by port.
pub filled_is : (rows : List LivePort) (state : Ipc) (done : List (ℕ × PortState)) (at : ℕ)
    → entries state.ports ≡ done ++ map emptied_in_row rows → AreUnder at done → AscendsFrom at (map serial_of rows)
    → (ports : FinMap {K = ℕ} nat_cmp PortState) × (filled_all rows state ≡ record state { ports = ports })
    × (entries ports ≡ done ++ map port_in_row rows)
filled_is [] state done at is under ascends = (state.ports, refl, is)
filled_is (row ∷ rows) state done at is under ascends =
    let below : AreUnder row.serial done = under_more at row.serial done ascends.0 under in
    let there : get state.ports row.serial ≡ Some (emptied row.state) =
    get-entries state.ports row.serial ∙ ap (find nat_cmp row.serial) is
    ∙ find_there done (map emptied_in_row rows) row.serial (emptied row.state) below in
    let next : Ipc = record state { ports = insert state.ports row.serial row.state } in
    let step : queued_all row.serial row.state.messages state ≡ next =
    queued_is row.serial row.state.messages state (emptied row.state) there in
    let put : entries next.ports ≡ (done ++ (row.serial, row.state) ∷ []) ++ map emptied_in_row rows =
    entries-insert nat_cmp_total state.ports row.serial row.state ∙ ap (put nat_cmp row.serial row.state) is
    ∙ put_there done (map emptied_in_row rows) row.serial (emptied row.state) row.state below
    ∙ sym (append_assoc done ((row.serial, row.state) ∷ []) (map emptied_in_row rows)) in
    let rest =
    filled_is rows next (done ++ (row.serial, row.state) ∷ []) (row.serial + 1) put
    (under_last row.serial row.serial row.state done (omega arith) below) ascends.1 in (
      rest.0,
      ap (filled_all rows) step ∙ rest.1,
      rest.2 ∙ append_assoc done ((row.serial, row.state) ∷ []) (map port_in_row rows),
    )

-- The state of rows without messages.
abbrev pub skeleton : IpcSnapshot → Ipc
skeleton snapshot =
    record {
      spaces = map_of (map space_of snapshot.spaces);
      ports = map_of (map emptied_in_row snapshot.ports);
      next = snapshot.next_serial;
    }

abbrev pub nothing : Ipc
nothing = record { spaces = empty; ports = empty; next = 1 }

pub skeleton_is : (snapshot : IpcSnapshot)
    → spaced_all snapshot.spaces (record (opened_all snapshot.ports nothing) { next = snapshot.next_serial })
    ≡ skeleton snapshot
skeleton_is snapshot =
    spaced_all_is snapshot.spaces (record (opened_all snapshot.ports nothing) { next = snapshot.next_serial })
    ∙ (λ i. record {
      spaces = put_all (map space_of snapshot.spaces) (opened_spaces snapshot.ports nothing i);
      ports = opened_ports snapshot.ports nothing i;
      next = snapshot.next_serial;
    })

module _ (snapshot : IpcSnapshot) (ascends : AscendsFrom 1 (map serial_of snapshot.ports)) where
  bare : entries (skeleton snapshot).ports ≡ map emptied_in_row snapshot.ports
  bare =
      entries_of (map emptied_in_row snapshot.ports) 1
      (subst (AscendsFrom 1) (sym (map_map key_of emptied_in_row snapshot.ports)) ascends)

  -- the rows' ports are complete with their messages
  pub whole_is : filled_all snapshot.ports (skeleton snapshot) ≡ state_of_rows snapshot
  whole_is =
      let filled = filled_is snapshot.ports (skeleton snapshot) [] 1 bare tt ascends in
      filled.1 ∙ ap (λ (m : FinMap {K = ℕ} nat_cmp PortState).
      record { spaces = map_of (map space_of snapshot.spaces); ports = m; next = snapshot.next_serial })
      (same_entries_map _ _ (filled.2
      ∙ sym (entries_of (map port_in_row snapshot.ports) 1
      (subst (AscendsFrom 1) (sym (map_map key_of port_in_row snapshot.ports)) ascends))))

  bare_ports : (skeleton snapshot).ports ≡ map_values emptied (state_of_rows snapshot).ports
  bare_ports = same_entries_map _ _ (bare ∙ sym (
      entries-map_values emptied (state_of_rows snapshot).ports
      ∙ ap (map (λ e. (e.0, emptied e.1)))
      (entries_of (map port_in_row snapshot.ports) 1
      (subst (AscendsFrom 1) (sym (map_map key_of port_in_row snapshot.ports)) ascends))
      ∙ map_map (λ e. (e.0, emptied e.1)) port_in_row snapshot.ports))

  -- messages don't affect the looks of the state
  pub looks_same : looks_of (skeleton snapshot) ≡ looks_of (state_of_rows snapshot)
  looks_same =
      λ i. record { lives = λ s. living s i; set_of = λ s. sets s i; names = names_in (state_of_rows snapshot) }
    where
      at : (s : ℕ) → get (skeleton snapshot).ports s ≡ option_map emptied (get (state_of_rows snapshot).ports s)
      at s =
          ap (λ (m : FinMap {K = ℕ} nat_cmp PortState). get m s) bare_ports
          ∙ get-map_values emptied (state_of_rows snapshot).ports s

      living : (s : ℕ) → lives (skeleton snapshot) s ≡ lives (state_of_rows snapshot) s
      living s = ap is_some (at s) ∙ by (get (state_of_rows snapshot).ports s)
        where
          by : (o : Option PortState) → is_some (option_map emptied o) ≡ is_some o
          by None = refl
          by (Some port) = refl

      sets : (s : ℕ) → (looks_of (skeleton snapshot)).set_of s ≡ (looks_of (state_of_rows snapshot)).set_of s
      sets s = ap (option_and_then (λ (port : PortState). port.set)) (at s) ∙ by (get (state_of_rows snapshot).ports s)
        where
          by : (o : Option PortState) → option_and_then (λ (port : PortState). port.set) (option_map emptied o)
              ≡ option_and_then (λ (port : PortState). port.set) o
          by None = refl
          by (Some port) = refl

-- Messages of linked rows are to live ports.

abbrev pub AreAlike : Ipc → Ipc → Type 0
AreAlike state other = (s : ℕ) → lives other s ≡ lives state s

module _ (state other : Ipc) (alike : AreAlike state other) where
  live_place : (port : PortInMessage) → is_live_place (looks_of state) port ≡ true → is_live_port other port ≡ true
  live_place Null live = refl
  live_place in_message.Dead live = refl
  live_place (Live serial) live = alike serial ∙ live

  live_reply : (reply : Option CarriedRight) → replies_well (looks_of state) reply ≡ true
      → is_live_reply other reply ≡ true
  live_reply None live = refl
  live_reply (Some right) live = live_place right.port live

  live_rights : (rights : List CarriedRight) → list_all (travels_well (looks_of state)) rights ≡ true
      → list_all (is_live other) rights ≡ true
  live_rights [] all = refl
  live_rights (right ∷ rights) all =
      both_hold (is_live other right) (list_all (is_live other) rights)
      (live_place right.port (first_holds (is_live_place (looks_of state) right.port) _
      (first_holds (travels_well (looks_of state) right) _ all)))
      (live_rights rights (second_holds (travels_well (looks_of state) right) _ all))

  pub live_message : (message : Message) → is_linked_message (looks_of state) message ≡ true
      → carries_live other message ≡ true
  live_message message linked =
      both_hold (is_live_reply other message.reply) _
      (live_reply message.reply (first_holds (replies_well (looks_of state) message.reply) _ linked))
      (live_rights message.rights (second_holds (replies_well (looks_of state) message.reply) _ linked))

pub queued_alike : (serial : ℕ) (message : Message) (state : Ipc) → AreAlike state (queued state serial message)
queued_alike serial message state s =
    elim (get state.ports serial) as (λ (o : Option PortState). get state.ports serial ≡ o
    → is_some (get (elim o as (λ _. Ipc) [
      | None ↦ state
      | Some p ↦ record state
          { ports = insert state.ports serial (record p { messages = p.messages ++ message ∷ [] }) }
    ]).ports s)
    ≡ lives state s) [
      | None ↦ λ (_ : _). refl
      | Some port ↦ λ (is : _). ap is_some
          (get-insert nat_cmp_total state.ports serial (record port { messages = port.messages ++ message ∷ [] }) s)
          ∙ by port is (eq_by_cmp nat_cmp s serial) refl
    ] refl
  where
    by : (port : PortState) → get state.ports serial ≡ Some port → (b : Bool) → eq_by_cmp nat_cmp s serial ≡ b
        → is_some (cond b (Some (record port { messages = port.messages ++ message ∷ [] })) (get state.ports s))
        ≡ lives state s
    by port is true same = sym (ap (lives state) (key_is s serial same) ∙ ap is_some is)
    by port is false apart = refl

pub all_queued_alike : (serial : ℕ) (messages : List Message) (state : Ipc)
    → AreAlike state (queued_all serial messages state)
all_queued_alike serial [] state s = refl
all_queued_alike serial (message ∷ messages) state s =
    all_queued_alike serial messages (queued state serial message) s ∙ queued_alike serial message state s

-- A space of a lawful shape that exists and has no names.
pub may_name_first : (row : Space) (state : Ipc) → IsShapedSpace row
    → MayName row.number row.names (with_names state row.number empty)
may_name_first row state shape = record {
  names = empty;
  there = get-here state.spaces row.number empty;
  few = omega (arith, shape.few, len-empty nat_cmp Entry);
  each =
      All-weaker IsShapedName (λ (r : NamedEntry). AreFewReferences r.entry)
      (λ r own. few r.entry own.1) row.names shape.each;
}
  where
    few : (entry : Entry) → LawfulEntry entry → AreFewReferences entry
    few (Port rights) lawful = lawful.1
    few (SendOnce port target) lawful = tt
    few Set lawful = tt
    few (Dead references) lawful = lawful.1

-- a port is added by three changes
pub opened_by : (old first second third : Running) (row : LivePort) (numbers : PortNumbers)
    → numbers ≡ numbers_of row.state → first ≡ record old { current = record old.current { next = row.serial } }
    → second ≡ record first {
      current = record first.current
          { ports = insert first.current.ports first.current.next new_port; next = first.current.next + 1 };
    }
    → third ≡ record second { current = with_port second.current row.serial (with_numbers numbers) }
    → third.current ≡ opened row old.current
opened_by old first second third row numbers are a b d =
    ap (λ (r : Running). r.current) d
    ∙ ap (λ (n : PortNumbers). with_port second.current row.serial (with_numbers n)) are
    ∙ ap (λ (r : Running). with_port r.current row.serial (with_numbers (numbers_of row.state))) b
    ∙ ap (λ (r : Running). with_port
    (record r.current { ports = insert r.current.ports r.current.next new_port; next = r.current.next + 1 })
    row.serial (with_numbers (numbers_of row.state))) a
    ∙ opened_is old.current row

-- the messages of a linked row are linked
pub linked_messages : (looks : Looks) (row : LivePort) → is_linked_row looks row ≡ true
    → All (λ (m : Message). is_linked_message looks m ≡ true) row.state.messages
linked_messages looks row linked =
    true_of (is_linked_message looks) row.state.messages
    (second_holds (is_live_target looks row.state.port_destroyed_target) _
    (second_holds (is_live_target looks row.state.no_senders_target) _ linked))
