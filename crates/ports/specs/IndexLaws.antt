-- The effect of each change of the ports on their indexes.
use Rattle.std.proofs.Common.{◌≡◌, ℕ, ◌+◌, ◌-◌, ◌^◌, ◌<◌, ◌≤◌, Bool, true, false, cond, ◌||◌, List, [], ◌∷◌, ◌++◌, Option, None, Some, is_some, option_map, option_and_then, refl, sym, ◌∙◌, ap, subst, arith}
use Rattle.std.specs.Cmp.{nat_cmp_total}
use Rattle.std.specs.List.{list_any}
use Rattle.std.specs.Ordering.{nat_cmp, eq_by_cmp}
use Rattle.std.specs.FinMap.{empty, get, insert, remove, get-empty, get-insert}
use Rattle.ipc_laws.specs.ListLaws.{some_same}
use Rattle.ipc_laws.specs.MapLaws.{entries_none}
use Rattle.ipc_laws.specs.MapSums.{key_is, weigh, weigh-append, weight, total-insert, total-new, total-remove}
use Rattle.ipc_laws.specs.Weights.{Weight, target_weigh, message_weigh, port_weigh}
use Rattle.ipc_model.specs.declared.message.Message.{Message}
use Rattle.ipc_model.specs.declared.port.PortState.{PortState}
use Rattle.ipc_model.specs.state.Ipc.{new_port}
use Rattle.live_ports.specs.Changed.{changed, numbers_of, with_message, with_numbers}
use Rattle.live_ports.specs.declared.port.PortNumbers.{PortNumbers}
use Rattle.live_ports.specs.PortTable.{PortTable}
use Rattle.live_ports.specs.Seen.{Ports, mentions, AreLive}
use Rattle.live_ports.specs.SeenLaws.{get_changed}
use Rattle.port_indexes.specs.Counts.{Counts, count_at, or_zero, key, eq_cmp}
use Rattle.port_indexes.specs.Rights.{AreCounted, counted_same, turned}
use Rattle.port_indexes.specs.Places.{Numbers, moved}
use Rattle.port_indexes.specs.Indexed.{IsIndexed, nothing_indexed, place_moved, alike_indexed}
use Rattle.ports.specs.Counting.{Fit, in_queue, received, target_fewer, target_more, carriers_carried_more, message_counted_more, target_counted_fewer, target_counted_more}
use Rattle.ports.specs.Indexes.{Parts, TargetsFit, AreSmall, AreIndexed, SameBefore, AreAtRest, AreRetargeted, AreOfMore, former_parts, present_parts, no_senders_of, destroyed_of, target_at, carried_by, carried_at, weighed}
use Rattle.ports.specs.declared.indexes.PortIndexes.{PortIndexes}

-- the ports after one live port has changed
pub changed_there : (ports : Ports) (serial : ℕ) (f : PortState → PortState) (port : PortState)
    → get ports serial ≡ Some port → changed ports serial f ≡ insert ports serial (f port)
changed_there ports serial f port there =
    ap (λ (o : Option PortState). elim o as (λ _. Ports) [ None ↦ ports | Some p ↦ insert ports serial (f p) ]) there

-- the indexes at the last commit or rollback
pub indexed_before : (table after : PortTable) (old new : PortIndexes) → after ≡ table → SameBefore old new
    → AreIndexed table (former_parts old) → AreIndexed after (former_parts new)
indexed_before table after old new same before are =
    let parts : former_parts new ≡ former_parts old =
    λ i. record {
      counts = before.counts i;
      carriers = before.carriers i;
      no_senders = before.no_senders i;
      destroyed = before.destroyed i;
    } in
    subst (λ (t : PortTable). AreIndexed t (former_parts new)) (sym same) (subst (AreIndexed table) (sym parts) are)

-- indexes without changes to commit or roll back
pub rest_indexed : (table before current : PortTable) (new : PortIndexes) (parts : Parts) → before ≡ table
    → current ≡ table → AreAtRest new parts → AreIndexed table parts → AreIndexed before (former_parts new)
    × AreIndexed current (present_parts new)
rest_indexed table before current new parts was is rest are =
    let former : former_parts new ≡ parts =
    λ i. record {
      counts = (rest.counts i).before;
      carriers = (rest.carriers i).before;
      no_senders = (rest.no_senders i).before;
      destroyed = (rest.destroyed i).before;
    } in
    let present : present_parts new ≡ parts =
    λ i. record {
      counts = (rest.counts i).current;
      carriers = (rest.carriers i).current;
      no_senders = (rest.no_senders i).current;
      destroyed = (rest.destroyed i).current;
    } in (
      subst (λ (t : PortTable). AreIndexed t (former_parts new)) (sym was) (subst (AreIndexed table) (sym former) are),
      subst (λ (t : PortTable). AreIndexed t (present_parts new)) (sym is) (subst (AreIndexed table) (sym present) are),
    )

-- no ports
pub none_indexed : (next : ℕ) → next < 2 ^ 64
    → AreIndexed (record { ports = empty; next = next })
    (record { counts = empty; carriers = empty; no_senders = empty; destroyed = empty })
none_indexed next fits = record {
  counted = record { sends = λ s _. none 0 s ∙ sym (nothing _); onces = λ s _. none 1 s ∙ sym (nothing _) };
  carried =
      λ inner outer _. none inner outer
      ∙ sym (ap (weight (λ _ port. carried_by inner port) outer) (get-empty nat_cmp outer));
  no_senders =
      nothing_indexed (target_at no_senders_of empty) empty
      (λ q. ap (option_and_then no_senders_of) (get-empty nat_cmp q)) refl;
  destroyed =
      nothing_indexed (target_at destroyed_of empty) empty
      (λ q. ap (option_and_then destroyed_of) (get-empty nat_cmp q)) refl;
  small = record {
    below = λ k some. absurd (cc (sym some ∙ ap is_some (get-empty nat_cmp k)));
    mentioned = λ k port at. absurd (cc (sym at ∙ get-empty nat_cmp k));
    fits = fits;
  };
}
  where
    none : (a b : ℕ) → count_at empty a b ≡ 0
    none a b = ap or_zero (get-empty nat_cmp (key a b))

    nothing : (w : Weight) → weighed empty w ≡ 0
    nothing w = ap (weigh (λ (e : ℕ × PortState). port_weigh w e.0 e.1)) entries_none

-- the target of a request after a live port has changed
pub target_changed : (look : PortState → Option ℕ) (ports : Ports) (serial : ℕ) (f : PortState → PortState)
    (port : PortState) (q : ℕ) → get ports serial ≡ Some port
    → target_at look (changed ports serial f) q
    ≡ cond (eq_by_cmp nat_cmp q serial) (look (f port)) (target_at look ports q)
target_changed look ports serial f port q there =
    ap (option_and_then look) (get_changed ports serial f q ∙ ap
    (λ (o : Option PortState). cond (eq_by_cmp nat_cmp q serial) (option_map f o) (get ports q)) there)
    ∙ go (eq_by_cmp nat_cmp q serial)
  where
    go : (b : Bool) → option_and_then look (cond b (Some (f port)) (get ports q))
        ≡ cond b (look (f port)) (target_at look ports q)
    go true = refl
    go false = refl

pub target_there : (look : PortState → Option ℕ) (ports : Ports) (serial : ℕ) (port : PortState)
    → get ports serial ≡ Some port → target_at look ports serial ≡ look port
target_there look ports serial port there = ap (option_and_then look) there

-- the receive rights in a queue after a live port has changed
pub carried_changed : (ports : Ports) (serial : ℕ) (f : PortState → PortState) (port : PortState) (inner outer : ℕ)
    → get ports serial ≡ Some port
    → carried_at (changed ports serial f) inner outer
    ≡ cond (eq_by_cmp nat_cmp outer serial) (carried_by inner (f port)) (carried_at ports inner outer)
carried_changed ports serial f port inner outer there =
    ap (weight (λ _ p. carried_by inner p) outer)
    (get_changed ports serial f outer ∙ ap
    (λ (o : Option PortState). cond (eq_by_cmp nat_cmp outer serial) (option_map f o) (get ports outer)) there)
    ∙ go (eq_by_cmp nat_cmp outer serial)
  where
    go : (b : Bool) → weight (λ _ p. carried_by inner p) outer (cond b (Some (f port)) (get ports outer))
        ≡ cond b (carried_by inner (f port)) (carried_at ports inner outer)
    go true = refl
    go false = refl

pub carried_there : (ports : Ports) (serial : ℕ) (port : PortState) (inner outer : ℕ) → get ports serial ≡ Some port
    → eq_by_cmp nat_cmp outer serial ≡ true → carried_at ports inner outer ≡ carried_by inner port
carried_there ports serial port inner outer there same =
    ap (weight (λ _ p. carried_by inner p) outer) (ap (get ports) (key_is outer serial same) ∙ there)

pub small_changed : (table : PortTable) (serial : ℕ) (f : PortState → PortState) (port : PortState)
    → get table.ports serial ≡ Some port → Fit (λ s. list_any (mentions s) (f port).messages) → AreSmall table
    → AreSmall (record table { ports = changed table.ports serial f })
small_changed table serial f port there fit small = record {
  below = λ k some. within k (eq_by_cmp nat_cmp k serial) refl (sym (ap is_some (at k)) ∙ some);
  mentioned = λ k p is. each k p (eq_by_cmp nat_cmp k serial) (sym (at k) ∙ is);
  fits = small.fits;
}
  where
    at : (k : ℕ) → get (changed table.ports serial f) k
        ≡ cond (eq_by_cmp nat_cmp k serial) (Some (f port)) (get table.ports k)
    at k =
        get_changed table.ports serial f k ∙ ap
        (λ (o : Option PortState). cond (eq_by_cmp nat_cmp k serial) (option_map f o) (get table.ports k)) there

    within : (k : ℕ) (b : Bool) → eq_by_cmp nat_cmp k serial ≡ b
        → is_some (cond b (Some (f port)) (get table.ports k)) ≡ true → k < table.next
    within k true same some = small.below k (ap is_some (ap (get table.ports) (key_is k serial same) ∙ there))
    within k false same some = small.below k some

    each : (k : ℕ) (p : PortState) (b : Bool) → cond b (Some (f port)) (get table.ports k) ≡ Some p
        → Fit (λ s. list_any (mentions s) p.messages)
    each k p true is =
        subst (λ (x : PortState). Fit (λ s. list_any (mentions s) x.messages)) (some_same (f port) p is) fit
    each k p false is = small.mentioned k p is

-- the numbers of a port are replaced
retargeted_at : (table : PortTable) (old new : PortIndexes) (serial : ℕ) (port : PortState) (numbers : PortNumbers)
    → get table.ports serial ≡ Some port → serial < 2 ^ 64 → TargetsFit (numbers_of port) → TargetsFit numbers
    → AreRetargeted old new serial (numbers_of port) numbers → AreIndexed table (present_parts old)
    → AreIndexed (record table { ports = changed table.ports serial (with_numbers numbers) }) (present_parts new)
retargeted_at table old new serial port numbers there fits was_fits is_fits done are = record {
  counted = subst (AreCounted (weighed (changed table.ports serial (with_numbers numbers)))) (sym done.counts) counts;
  carried =
      λ inner outer small. ap (λ (c : Counts). count_at c inner outer) done.carriers ∙ are.carried inner outer small
      ∙ sym (carried_changed table.ports serial (with_numbers numbers) port inner outer there
      ∙ same_queue inner outer (eq_by_cmp nat_cmp outer serial) refl);
  no_senders =
      one no_senders_of numbers.no_senders_target
      (λ p. refl) old.no_senders.current new.no_senders.current done.no_senders are.no_senders;
  destroyed =
      one destroyed_of numbers.port_destroyed_target
      (λ p. refl) old.port_destroyed.current new.port_destroyed.current done.destroyed are.destroyed;
  small =
      small_changed table serial (with_numbers numbers) port there (are.small.mentioned serial port there) are.small;
}
  where
    f : Weight → ℕ
    f w = weighed (remove table.ports serial) w + weigh (message_weigh w serial) port.messages

    was : (w : Weight) → weighed table.ports w
        ≡ (f w + target_weigh w port.port_destroyed_target) + target_weigh w port.no_senders_target
    was w = omega (arith, total-remove (port_weigh w) table.ports serial, ap (weight (port_weigh w) serial) there)

    is : (w : Weight) → (f w + target_weigh w numbers.no_senders_target) + target_weigh w numbers.port_destroyed_target
        ≡ weighed (changed table.ports serial (with_numbers numbers)) w
    is w = omega (
      arith,
      total-insert (port_weigh w) table.ports serial (with_numbers numbers port),
      total-remove (port_weigh w) table.ports serial,
      ap (weight (port_weigh w) serial) there,
      ap (λ (m : Ports). weighed m w) (changed_there table.ports serial (with_numbers numbers) port there),
    )

    counts : AreCounted (weighed (changed table.ports serial (with_numbers numbers)))
        (target_more (target_fewer (target_more
        (target_fewer old.counts.current port.no_senders_target) numbers.no_senders_target)
        port.port_destroyed_target) numbers.port_destroyed_target)
    counts =
        counted_same (λ (w : Weight). (f w + target_weigh w numbers.no_senders_target) + target_weigh w
        numbers.port_destroyed_target) _ _ is
        (target_counted_more (λ (w : Weight). f w + target_weigh w numbers.no_senders_target) _
        numbers.port_destroyed_target is_fits.destroyed
        (target_counted_fewer (λ (w : Weight). f w + target_weigh w numbers.no_senders_target) _
        port.port_destroyed_target was_fits.destroyed
        (counted_same (λ (w : Weight).
        (f w + target_weigh w port.port_destroyed_target) + target_weigh w numbers.no_senders_target)
        (λ (w : Weight). (f w + target_weigh w numbers.no_senders_target) + target_weigh w
        port.port_destroyed_target) _ (λ w. omega arith)
        (target_counted_more (λ (w : Weight). f w + target_weigh w port.port_destroyed_target) _
        numbers.no_senders_target is_fits.no_senders
        (target_counted_fewer (λ (w : Weight). f w + target_weigh w port.port_destroyed_target) old.counts.current
        port.no_senders_target was_fits.no_senders
        (counted_same (weighed table.ports) _ old.counts.current was are.counted))))))

    same_queue : (inner outer : ℕ) (b : Bool) → eq_by_cmp nat_cmp outer serial ≡ b
        → cond b (carried_by inner port) (carried_at table.ports inner outer) ≡ carried_at table.ports inner outer
    same_queue inner outer true same = sym (carried_there table.ports serial port inner outer there same)
    same_queue inner outer false same = refl

    one : (look : PortState → Option ℕ) (target : Option ℕ) → ((p : PortState) → look (with_numbers numbers p) ≡ target)
        → (before after : Numbers) → after ≡ moved before serial (look port) target
        → IsIndexed (target_at look table.ports) before
        → IsIndexed (target_at look (changed table.ports serial (with_numbers numbers))) after
    one look target sets before after moves indexed =
        subst (IsIndexed (target_at look (changed table.ports serial (with_numbers numbers))))
        (sym (moves ∙ ap (λ (o : Option ℕ). moved before serial o target)
        (sym (target_there look table.ports serial port there))))
        (place_moved (target_at look table.ports)
        (target_at look (changed table.ports serial (with_numbers numbers))) before serial target fits
        (λ q. target_changed look table.ports serial (with_numbers numbers) port q there ∙ ap
        (λ (o : Option ℕ). cond (eq_by_cmp nat_cmp q serial) o (target_at look table.ports q)) (sets port)) indexed)

pub retargeted_indexed : (table after : PortTable) (old new : PortIndexes) (serial : ℕ) (former numbers : PortNumbers)
    → Some former ≡ option_map numbers_of (get table.ports serial) → serial < 2 ^ 64 → TargetsFit former
    → TargetsFit numbers → after ≡ record table { ports = changed table.ports serial (with_numbers numbers) }
    → AreRetargeted old new serial former numbers → AreIndexed table (present_parts old)
    → AreIndexed after (present_parts new)
retargeted_indexed table after old new serial former numbers has fits was_fits is_fits is done are =
    subst (λ (t : PortTable). AreIndexed t (present_parts new)) (sym is) (by (get table.ports serial) refl has)
  where
    by : (o : Option PortState) → get table.ports serial ≡ o → Some former ≡ option_map numbers_of o
        → AreIndexed (record table { ports = changed table.ports serial (with_numbers numbers) }) (present_parts new)
    by None none same = absurd (cc same)
    by (Some port) there same =
        let alike : former ≡ numbers_of port = some_same former (numbers_of port) same in
        retargeted_at table old new serial port numbers there fits (subst TargetsFit alike was_fits) is_fits
        (subst (λ (n : PortNumbers). AreRetargeted old new serial n numbers) alike done) are

-- a message is added to a queue
last_true : (b : Bool) → (b || false) ≡ true → b ≡ true
last_true true e = refl
last_true false e = absurd (cc e)

fit_more : (messages : List Message) (message : Message) → Fit (λ s. list_any (mentions s) messages)
    → Fit (λ s. mentions s message) → Fit (λ s. list_any (mentions s) (messages ++ message ∷ []))
fit_more [] message fit last s to = last s (last_true (mentions s message) to)
fit_more (m ∷ messages) message fit last s to =
    elim (mentions s m) as (λ (b : Bool). mentions s m ≡ b
    → (b || list_any (mentions s) (messages ++ message ∷ [])) ≡ true → s < 2 ^ 64) [
      | true ↦ λ (is : _) (_ : _). fit s (ap (λ (b : Bool). b || list_any (mentions s) messages) is)
      | false ↦ λ (is : _) (e : _). fit_more messages message
          (λ k some. fit k (beyond (mentions k m) (list_any (mentions k) messages) some)) last s e
    ] refl to
  where
    beyond : (a b : Bool) → b ≡ true → (a || b) ≡ true
    beyond true b e = refl
    beyond false b e = e

live_fits : (table : PortTable) (message : Message) → AreLive table.ports message → AreSmall table
    → Fit (λ s. mentions s message)
live_fits table message live small s to = omega (arith, small.below s (live s to), small.fits)

pushed_at : (table : PortTable) (old new : PortIndexes) (serial : ℕ) (message : Message) (port : PortState)
    → get table.ports serial ≡ Some port → serial < 2 ^ 64 → AreLive table.ports message
    → AreOfMore old new serial message
    → AreIndexed table (present_parts old)
    → AreIndexed (record table { ports = changed table.ports serial (with_message message) }) (present_parts new)
pushed_at table old new serial message port there fits live done are = record {
  counted = subst (AreCounted (weighed (changed table.ports serial (with_message message)))) (sym done.counts)
      (counted_same (λ (w : Weight). weighed table.ports w + message_weigh w serial message) _ _ more
      (message_counted_more (weighed table.ports) old.counts.current serial message fits
      (live_fits table message live are.small) are.counted));
  carried = λ inner outer small.
      ap (λ (c : Counts). count_at c inner outer) done.carriers
      ∙ carriers_carried_more (carried_at table.ports) old.carriers.current serial message.rights fits are.carried
      inner outer small
      ∙ sym (carried_changed table.ports serial (with_message message) port inner outer there
      ∙ carries inner outer (eq_by_cmp nat_cmp outer serial) refl);
  no_senders =
      subst (IsIndexed (target_at no_senders_of (changed table.ports serial (with_message message))))
      (sym done.no_senders)
      (alike_indexed (target_at no_senders_of table.ports) _ old.no_senders.current
      (λ q _. sym (same no_senders_of refl q)) are.no_senders);
  destroyed =
      subst (IsIndexed (target_at destroyed_of (changed table.ports serial (with_message message))))
      (sym done.destroyed)
      (alike_indexed (target_at destroyed_of table.ports) _ old.port_destroyed.current
      (λ q _. sym (same destroyed_of refl q)) are.destroyed);
  small =
      small_changed table serial (with_message message) port there
      (fit_more port.messages message (are.small.mentioned serial port there)
      (live_fits table message live are.small)) are.small;
}
  where
    more : (w : Weight) → weighed table.ports w + message_weigh w serial message
        ≡ weighed (changed table.ports serial (with_message message)) w
    more w = omega (
      arith,
      total-insert (port_weigh w) table.ports serial (with_message message port),
      ap (weight (port_weigh w) serial) there,
      weigh-append (message_weigh w serial) port.messages (message ∷ []),
      ap (λ (m : Ports). weighed m w) (changed_there table.ports serial (with_message message) port there),
    )

    carries : (inner outer : ℕ) (b : Bool) → eq_by_cmp nat_cmp outer serial ≡ b
        → cond b (carried_by inner (with_message message port)) (carried_at table.ports inner outer)
        ≡ carried_at table.ports inner outer + in_queue serial outer (received inner message.rights)
    carries inner outer true same = omega (
      arith,
      weigh-append (λ (m : Message). received inner m.rights) port.messages (message ∷ []),
      carried_there table.ports serial port inner outer there same,
      ap (λ (b : Bool). cond {A = ℕ} b (received inner message.rights) 0)
          (turned serial outer ∙ sym (eq_cmp outer serial) ∙ same),
    )
    carries inner outer false same =
        omega (
          arith,
          ap (λ (b : Bool). cond {A = ℕ} b (received inner message.rights) 0)
              (turned serial outer ∙ sym (eq_cmp outer serial) ∙ same),
        )

    same : (look : PortState → Option ℕ) → look (with_message message port) ≡ look port → (q : ℕ)
        → target_at look (changed table.ports serial (with_message message)) q ≡ target_at look table.ports q
    same look alike q =
        target_changed look table.ports serial (with_message message) port q there
        ∙ go (eq_by_cmp nat_cmp q serial) refl
      where
        go : (b : Bool) → eq_by_cmp nat_cmp q serial ≡ b
            → cond b (look (with_message message port)) (target_at look table.ports q) ≡ target_at look table.ports q
        go true at =
            alike ∙ sym (ap (target_at look table.ports) (key_is q serial at)
            ∙ target_there look table.ports serial port there)
        go false at = refl

pub pushed_indexed : (table after : PortTable) (old new : PortIndexes) (serial : ℕ) (message : Message)
    → is_some (get table.ports serial) ≡ true → serial < 2 ^ 64 → AreLive table.ports message
    → after ≡ record table { ports = changed table.ports serial (with_message message) }
    → AreOfMore old new serial message → AreIndexed table (present_parts old) → AreIndexed after (present_parts new)
pushed_indexed table after old new serial message lives fits live is done are =
    subst (λ (t : PortTable). AreIndexed t (present_parts new)) (sym is) (by (get table.ports serial) refl lives)
  where
    by : (o : Option PortState) → get table.ports serial ≡ o → is_some o ≡ true
        → AreIndexed (record table { ports = changed table.ports serial (with_message message) }) (present_parts new)
    by None none some = absurd (cc some)
    by (Some port) there some = pushed_at table old new serial message port there fits live done are

-- the next serial is increased
pub later_indexed : (table after : PortTable) (parts : Parts) (serial : ℕ) → table.next ≤ serial → serial < 2 ^ 64
    → after ≡ record table { next = serial } → AreIndexed table parts → AreIndexed after parts
later_indexed table after parts serial past fits is are =
    subst (λ (t : PortTable). AreIndexed t parts) (sym is) (record {
      counted = are.counted;
      carried = are.carried;
      no_senders = are.no_senders;
      destroyed = are.destroyed;
      small = record {
        below = λ k some. omega (arith, past, are.small.below k some);
        mentioned = are.small.mentioned;
        fits = fits;
      };
    })

-- a port is added
pub added_indexed : (table after : PortTable) (parts : Parts) → table.next < 2 ^ 64 - 1
    → after ≡ record { ports = insert table.ports table.next new_port; next = table.next + 1 } → AreIndexed table parts
    → AreIndexed after parts
added_indexed table after parts room is are = subst (λ (t : PortTable). AreIndexed t parts) (sym is) (record {
  counted =
      counted_same (weighed table.ports) _ parts.counts
      (λ w. omega (arith, total-new (port_weigh w) table.ports table.next new_port none)) are.counted;
  carried =
      λ inner outer small. are.carried inner outer small
      ∙ sym (ap (weight (λ _ port. carried_by inner port) outer)
      (get-insert nat_cmp_total table.ports table.next new_port outer)
      ∙ no_more inner outer (eq_by_cmp nat_cmp outer table.next) refl);
  no_senders =
      alike_indexed (target_at no_senders_of table.ports) _ parts.no_senders
      (λ q _. alike no_senders_of refl q) are.no_senders;
  destroyed =
      alike_indexed (target_at destroyed_of table.ports) _ parts.destroyed
      (λ q _. alike destroyed_of refl q) are.destroyed;
  small = record {
    below =
        λ k some. within k (eq_by_cmp nat_cmp k table.next) refl
        (sym (ap is_some (get-insert nat_cmp_total table.ports table.next new_port k)) ∙ some);
    mentioned =
        λ k port at. each k port (eq_by_cmp nat_cmp k table.next)
        (sym (get-insert nat_cmp_total table.ports table.next new_port k) ∙ at);
    fits = omega (arith, room);
  };
})
  where
    none_of : (o : Option PortState) → (is_some o ≡ true → ⊥) → o ≡ None
    none_of None never = refl
    none_of (Some e) never = absurd (never refl)

    none : get table.ports table.next ≡ None
    none = none_of (get table.ports table.next) (λ some. absurd (omega (arith, are.small.below table.next some)))

    no_more : (inner outer : ℕ) (b : Bool) → eq_by_cmp nat_cmp outer table.next ≡ b
        → weight (λ _ port. carried_by inner port) outer (cond b (Some new_port) (get table.ports outer))
        ≡ carried_at table.ports inner outer
    no_more inner outer true same =
        sym (ap (weight (λ _ port. carried_by inner port) outer)
        (ap (get table.ports) (key_is outer table.next same) ∙ none))
    no_more inner outer false same = refl

    alike : (look : PortState → Option ℕ) → look new_port ≡ None → (q : ℕ)
        → target_at look table.ports q ≡ target_at look (insert table.ports table.next new_port) q
    alike look nothing q =
        sym (ap (option_and_then look) (get-insert nat_cmp_total table.ports table.next new_port q)
        ∙ go (eq_by_cmp nat_cmp q table.next) refl)
      where
        go : (b : Bool) → eq_by_cmp nat_cmp q table.next ≡ b
            → option_and_then look (cond b (Some new_port) (get table.ports q)) ≡ target_at look table.ports q
        go true same =
            nothing ∙ sym (ap (option_and_then look) (ap (get table.ports) (key_is q table.next same) ∙ none))
        go false same = refl

    within : (k : ℕ) (b : Bool) → eq_by_cmp nat_cmp k table.next ≡ b
        → is_some (cond b (Some new_port) (get table.ports k)) ≡ true → k < table.next + 1
    within k true same some = omega (arith, key_is k table.next same)
    within k false same some = omega (arith, are.small.below k some)

    each : (k : ℕ) (port : PortState) (b : Bool) → cond b (Some new_port) (get table.ports k) ≡ Some port
        → Fit (λ s. list_any (mentions s) port.messages)
    each k port true at =
        subst (λ (p : PortState). Fit (λ s. list_any (mentions s) p.messages)) (some_same new_port port at)
        (λ s to. absurd (cc to))
    each k port false at = are.small.mentioned k port at
