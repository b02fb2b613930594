-- The indexes after the death of a port that is no request's target and has no requests.
use Rattle.std.proofs.Common.{◌≡◌, ℕ, zero, suc, ◌+◌, ◌-◌, ◌^◌, ◌<◌, ◌==◌, Bool, true, false, cond, ◌&&◌, ◌||◌, List, [], ◌∷◌, map, Option, None, Some, is_some, option_map, option_and_then, refl, sym, ◌∙◌, ap, subst, arith}
use Rattle.std.proofs.lemmas.Bool.{eqb-true}
use Rattle.std.specs.Cmp.{nat_cmp_total}
use Rattle.std.specs.List.{list_any}
use Rattle.std.specs.Ordering.{nat_cmp, eq_by_cmp}
use Rattle.std.specs.FinMap.{get, remove, len, entries, get-empty, get-remove, len-remove, empty_of_len}
use Rattle.ipc_laws.specs.Dangling.{total-zero}
use Rattle.ipc_laws.specs.ListLaws.{some_same}
use Rattle.ipc_laws.specs.MapLaws.{get-map_values}
use Rattle.ipc_laws.specs.MapSums.{key_is, weigh, weigh-map, weigh-same, weigh-zero, weight, total-map_values, total-remove}
use Rattle.ipc_laws.specs.Weights.{Weight, target_weigh, place_weigh, carried_weigh, reply_weigh, message_weigh, port_weigh}
use Rattle.ipc_model.specs.declared.message.CarriedRight.{CarriedRight}
use Rattle.ipc_model.specs.declared.message.Message.{Message}
use Rattle.ipc_model.specs.declared.message.PortInMessage.{PortInMessage}
use Rattle.ipc_model.specs.declared.message.PortInMessage.TheVariants as in_message
use Rattle.ipc_model.specs.declared.message.RightKind.{RightKind}
use Rattle.ipc_model.specs.declared.message.RightKind.TheVariants as kind
use Rattle.ipc_model.specs.declared.port.PortState.{PortState}
use Rattle.ipc_model.specs.effects.Effects.{map_values, carried_after_death, right_after_death, message_after_death}
use Rattle.ipc_model.specs.state.Circular.{is_port}
use Rattle.ipc_model.specs.state.Placed.{same_kind}
use Rattle.ipc_model.specs.state.Ipc.{is_number}
use Rattle.live_ports.specs.Changed.{messages_at, messages_in}
use Rattle.live_ports.specs.PortTable.{PortTable}
use Rattle.live_ports.specs.Seen.{Ports, is_to, reply_is_to, mentions, queue_after_death}
use Rattle.port_indexes.specs.Counts.{Counts, count_at, or_zero, key, with_count, count_with, eq_cmp}
use Rattle.port_indexes.specs.Rights.{AreCounted, counted_same, right_weight, turned}
use Rattle.port_indexes.specs.Indexed.{IsIndexed, alike_indexed}
use Rattle.ports.specs.Counting.{Fit, AreCarried, in_queue, receives, received, carried_in, messages_fewer, queue_fewer, messages_counted_fewer, queue_carried_fewer}
use Rattle.ports.specs.Indexes.{AreSmall, AreIndexed, present_parts, no_senders_of, destroyed_of, target_at, carried_by, carried_at, weighed}
use Rattle.ports.specs.Requests.{IsUntargeted}
use Rattle.ports.specs.declared.indexes.PortIndexes.{PortIndexes}

-- all counts with this first number are 0, and the others are unchanged
abbrev pub IsCleared : ℕ → Counts → Counts → Type 0
IsCleared first old new = (a b : ℕ) → b < 2 ^ 64 → count_at new a b ≡ cond (a == first) 0 (count_at old a b)

-- the rights of a queue with these messages are removed, and so are all rights to its port
pub record AreWithout (old new : PortIndexes) (serial : ℕ) (messages : List Message) : Type 0 where
  pub counts : new.counts.current
      ≡ with_count (with_count (messages_fewer old.counts.current serial messages) 0 serial 0) 1 serial 0
  pub carriers : IsCleared serial (queue_fewer old.carriers.current serial messages) new.carriers.current
  pub no_senders : new.no_senders.current ≡ old.no_senders.current
  pub destroyed : new.port_destroyed.current ≡ old.port_destroyed.current

-- one pair less is counted
pub fewer_pairs : (old new : Counts) (a b : ℕ) → new ≡ with_count old a b 0 → 0 < count_at old a b → len new < len old
fewer_pairs old new a b at many = by (get old (key a b)) refl
  where
    some : (n : ℕ) → get old (key a b) ≡ Some n → (m : ℕ) → len old ≡ m → 0 < m
    some n there zero none =
        absurd (cc (sym there ∙ ap (λ (c : Counts). get c (key a b)) (empty_of_len old none)
        ∙ get-empty nat_cmp (key a b)))
    some n there (suc m) is = omega arith

    by : (o : Option ℕ) → get old (key a b) ≡ o → len new < len old
    by None none = absurd (omega (arith, many, ap or_zero none))
    by (Some n) there =
        omega (
          arith,
          ap len at,
          len-remove nat_cmp_total old (key a b) ∙ ap
              (λ (o : Option ℕ). cond (is_some o) (len old - 1) (len old)) there,
          some n there (len old) refl,
        )

-- other pairs are unchanged
pub others_stay : (old new : Counts) (first second a b : ℕ) → new ≡ with_count old first second 0 → second < 2 ^ 64
    → b < 2 ^ 64 → (a == first) ≡ false → count_at new a b ≡ count_at old a b
others_stay old new first second a b at small other apart =
    ap (λ (c : Counts). count_at c a b) at ∙ count_with old first second 0 a b small other ∙ ap
    (λ (t : Bool). cond (t && b == second) 0 (count_at old a b)) apart

-- Weights that ignore the port.
module _ (w : Weight) (serial : ℕ) (blind : (what : RightKind) → w what serial ≡ 0) where
  right_blind : (right : CarriedRight) → carried_weigh w (right_after_death serial right) ≡ carried_weigh w right
  right_blind right = go right.port
    where
      go : (port : PortInMessage) → place_weigh w right.kind (carried_after_death serial port)
          ≡ place_weigh w right.kind port
      go in_message.Null = refl
      go in_message.Dead = refl
      go (in_message.Live other) =
          elim (other == serial) as (λ (b : Bool). (other == serial) ≡ b
          → place_weigh w right.kind (cond b in_message.Dead (in_message.Live other)) ≡ w right.kind other) [
            | true ↦ λ (e : _). sym (ap (w right.kind) (eqb-true other serial e) ∙ blind right.kind)
            | false ↦ λ (e : _). refl
          ] refl

  reply_blind : (reply : Option CarriedRight)
      → reply_weigh w (option_map (right_after_death serial) reply) ≡ reply_weigh w reply
  reply_blind None = refl
  reply_blind (Some right) = right_blind right

  message_blind : (queue : ℕ) (message : Message)
      → message_weigh w queue (message_after_death serial message) ≡ message_weigh w queue message
  message_blind queue message = omega (
    arith,
    reply_blind message.reply,
    weigh-map (carried_weigh w) (right_after_death serial) message.rights,
    weigh-same (λ (r : CarriedRight). carried_weigh w (right_after_death serial r))
        (carried_weigh w) right_blind message.rights,
  )

  port_blind : (queue : ℕ) (port : PortState)
      → port_weigh w queue (queue_after_death serial port) ≡ port_weigh w queue port
  port_blind queue port = omega (
    arith,
    weigh-map (message_weigh w queue) (message_after_death serial) port.messages,
    weigh-same (λ (m : Message). message_weigh w queue (message_after_death serial m)) (message_weigh w queue)
        (message_blind queue) port.messages,
  )

  pub weighed_blind : (ports : Ports) → weighed (map_values (queue_after_death serial) ports) w ≡ weighed ports w
  weighed_blind ports =
      total-map_values (port_weigh w) (queue_after_death serial) ports
      ∙ weigh-same (λ (e : ℕ × PortState). port_weigh w e.0 (queue_after_death serial e.1))
      (λ (e : ℕ × PortState). port_weigh w e.0 e.1) (λ e. port_blind e.0 e.1) (entries ports)

-- Weights that ignore all other ports.
module _ (w : Weight) (serial : ℕ)
    (only : (what : RightKind) (port : ℕ) → (port == serial) ≡ false → w what port ≡ 0) where
  right_only : (right : CarriedRight) → carried_weigh w (right_after_death serial right) ≡ 0
  right_only right = go right.port
    where
      go : (port : PortInMessage) → place_weigh w right.kind (carried_after_death serial port) ≡ 0
      go in_message.Null = refl
      go in_message.Dead = refl
      go (in_message.Live other) =
          elim (other == serial) as (λ (b : Bool). (other == serial) ≡ b
          → place_weigh w right.kind (cond b in_message.Dead (in_message.Live other)) ≡ 0) [
            | true ↦ λ (e : _). refl
            | false ↦ λ (e : _). only right.kind other e
          ] refl

  reply_only : (reply : Option CarriedRight) → reply_weigh w (option_map (right_after_death serial) reply) ≡ 0
  reply_only None = refl
  reply_only (Some right) = right_only right

  message_only : (queue : ℕ) (message : Message) → (queue == serial) ≡ false
      → message_weigh w queue (message_after_death serial message) ≡ 0
  message_only queue message apart = omega (
    arith,
    only message.destination queue apart,
    reply_only message.reply,
    weigh-map (carried_weigh w) (right_after_death serial) message.rights,
    weigh-zero (λ (r : CarriedRight). carried_weigh w (right_after_death serial r)) right_only message.rights,
  )

  target_only : (o : Option ℕ) → is_number o serial ≡ false → target_weigh w o ≡ 0
  target_only None e = refl
  target_only (Some t) e = only kind.SendOnce t e

  port_only : (queue : ℕ) (port : PortState) → (queue == serial) ≡ false
      → is_number port.no_senders_target serial ≡ false → is_number port.port_destroyed_target serial ≡ false
      → port_weigh w queue (queue_after_death serial port) ≡ 0
  port_only queue port apart asked notified = omega (
    arith,
    target_only port.no_senders_target asked,
    target_only port.port_destroyed_target notified,
    weigh-map (message_weigh w queue) (message_after_death serial) port.messages,
    weigh-zero (λ (m : Message). message_weigh w queue (message_after_death serial m))
        (λ m. message_only queue m apart) port.messages,
  )

  pub weighed_only : (ports : Ports) → IsUntargeted serial ports
      → weighed (map_values (queue_after_death serial) (remove ports serial)) w ≡ 0
  weighed_only ports untargeted =
      total-map_values (port_weigh w) (queue_after_death serial) (remove ports serial)
      ∙ total-zero (λ k port. port_weigh w k (queue_after_death serial port)) (remove ports serial)
      (λ k port there. by k port (eq_by_cmp nat_cmp k serial) refl
      (sym (get-remove nat_cmp_total ports serial k) ∙ there))
    where
      by : (k : ℕ) (port : PortState) (b : Bool) → eq_by_cmp nat_cmp k serial ≡ b
          → cond b None (get ports k) ≡ Some port → port_weigh w k (queue_after_death serial port) ≡ 0
      by k port true same is = absurd (cc is)
      by k port false apart is =
          port_only k port (sym (eq_cmp k serial) ∙ apart)
          (ap (λ (o : Option PortState). is_number (option_and_then no_senders_of o) serial) (sym is)
          ∙ untargeted.no_senders k)
          (ap (λ (o : Option PortState). is_number (option_and_then destroyed_of o) serial) (sym is)
          ∙ untargeted.destroyed k)

-- the port's own weight is that of its messages
own_weight : (w : Weight) (serial : ℕ) (ports : Ports) → IsUntargeted serial ports
    → weight (port_weigh w) serial (get ports serial) ≡ weigh (message_weigh w serial) (messages_at ports serial)
own_weight w serial ports untargeted = by (get ports serial) untargeted.none_asked untargeted.none_notified
  where
    by : (o : Option PortState) → option_and_then no_senders_of o ≡ None → option_and_then destroyed_of o ≡ None
        → weight (port_weigh w) serial o ≡ weigh (message_weigh w serial) (messages_in o)
    by None asked notified = refl
    by (Some port) asked notified = omega (arith, ap (target_weigh w) asked, ap (target_weigh w) notified)

-- the counts of send and send-once rights to the port are 0
cleared_counts : (f g : Weight → ℕ) (counts : Counts) (serial : ℕ) → serial < 2 ^ 64
    → ((what : RightKind) (s : ℕ) → (s == serial) ≡ false → g (right_weight what s) ≡ f (right_weight what s))
    → ((what : RightKind) → g (right_weight what serial) ≡ 0) → AreCounted f counts
    → AreCounted g (with_count (with_count counts 0 serial 0) 1 serial 0)
cleared_counts f g counts serial fits others own are = record {
  sends =
      λ s small. count_with (with_count counts 0 serial 0) 1 serial 0 0 s fits small
      ∙ count_with counts 0 serial 0 0 s fits small
      ∙ at kind.Send s (s == serial) refl (count_at counts 0 s) (are.sends s small);
  onces =
      λ s small. count_with (with_count counts 0 serial 0) 1 serial 0 1 s fits small
      ∙ ap (cond {A = ℕ} (s == serial) 0) (count_with counts 0 serial 0 1 s fits small)
      ∙ at kind.SendOnce s (s == serial) refl (count_at counts 1 s) (are.onces s small);
}
  where
    at : (what : RightKind) (s : ℕ) (b : Bool) → (s == serial) ≡ b → (n : ℕ) → n ≡ f (right_weight what s)
        → cond b 0 n ≡ g (right_weight what s)
    at what s true same n is = sym (ap (λ (q : ℕ). g (right_weight what q)) (eqb-true s serial same) ∙ own what)
    at what s false apart n is = is ∙ sym (others what s apart)

not_both : (a b : Bool) → b ≡ false → cond {A = ℕ} (a && b) 1 0 ≡ 0
not_both true b e = ap (λ (t : Bool). cond {A = ℕ} t 1 0) e
not_both false b e = refl

-- receive rights in queues after the death
receives_after : (inner serial : ℕ) (right : CarriedRight)
    → receives inner (right_after_death serial right) ≡ cond {A = ℕ} (inner == serial) 0 (receives inner right)
receives_after inner serial right = go right.kind right.port
  where
    zero_both : (b : Bool) → 0 ≡ cond {A = ℕ} b 0 0
    zero_both true = refl
    zero_both false = refl

    off : (a : Bool) → cond {A = ℕ} (a && false) 1 0 ≡ 0
    off true = refl
    off false = refl

    live : (a : Bool) (other : ℕ) (b : Bool) → (other == serial) ≡ b → (c : Bool) → (inner == serial) ≡ c
        → cond {A = ℕ} (a && is_port (cond b in_message.Dead (in_message.Live other)) inner) 1 0
        ≡ cond {A = ℕ} c 0 (cond {A = ℕ} (a && other == inner) 1 0)
    live a other true same true is = off a
    live a other true same false apart =
        off a ∙ sym (not_both a (other == inner)
        (ap (λ (q : ℕ). q == inner) (eqb-true other serial same) ∙ turned serial inner ∙ apart))
    live a other false apart true is =
        not_both a (other == inner) (ap (λ (q : ℕ). other == q) (eqb-true inner serial is) ∙ apart)
    live a other false apart false off = refl

    go : (what : RightKind) (port : PortInMessage)
        → cond {A = ℕ} (same_kind what kind.Receive && is_port (carried_after_death serial port) inner) 1 0
        ≡ cond {A = ℕ} (inner == serial) 0 (cond {A = ℕ} (same_kind what kind.Receive && is_port port inner) 1 0)
    go what in_message.Null =
        off (same_kind what kind.Receive) ∙ zero_both (inner == serial)
        ∙ ap (cond {A = ℕ} (inner == serial) 0) (sym (off (same_kind what kind.Receive)))
    go what in_message.Dead =
        off (same_kind what kind.Receive) ∙ zero_both (inner == serial)
        ∙ ap (cond {A = ℕ} (inner == serial) 0) (sym (off (same_kind what kind.Receive)))
    go what (in_message.Live other) =
        live (same_kind what kind.Receive) other (other == serial) refl (inner == serial) refl

cond_sum : (b : Bool) (m n : ℕ) → cond b 0 m + cond b 0 n ≡ cond b 0 (m + n)
cond_sum true m n = refl
cond_sum false m n = refl

none_sum : (b : Bool) → 0 ≡ cond {A = ℕ} b 0 0
none_sum true = refl
none_sum false = refl

received_after : (inner serial : ℕ) (rights : List CarriedRight)
    → received inner (map (right_after_death serial) rights) ≡ cond {A = ℕ} (inner == serial) 0 (received inner rights)
received_after inner serial [] = none_sum (inner == serial)
received_after inner serial (r ∷ rights) =
    (λ i. receives_after inner serial r i + received_after inner serial rights i)
    ∙ cond_sum (inner == serial) (receives inner r) (received inner rights)

carried_after : (inner serial : ℕ) (messages : List Message)
    → carried_in inner (map (message_after_death serial) messages)
    ≡ cond {A = ℕ} (inner == serial) 0 (carried_in inner messages)
carried_after inner serial [] = none_sum (inner == serial)
carried_after inner serial (m ∷ messages) =
    (λ i. received_after inner serial m.rights i + carried_after inner serial messages i)
    ∙ cond_sum (inner == serial) (received inner m.rights) (carried_in inner messages)

-- the port of a serial after the death
get_buried : (serial : ℕ) (ports : Ports) (q : ℕ)
    → get (map_values (queue_after_death serial) (remove ports serial)) q
    ≡ option_map (queue_after_death serial) (cond (eq_by_cmp nat_cmp q serial) None (get ports q))
get_buried serial ports q =
    get-map_values (queue_after_death serial) (remove ports serial) q
    ∙ ap (option_map (queue_after_death serial)) (get-remove nat_cmp_total ports serial q)

carried_buried : (serial : ℕ) (ports : Ports) (inner outer : ℕ)
    → carried_at (map_values (queue_after_death serial) (remove ports serial)) inner outer
    ≡ cond {A = ℕ} (inner == serial) 0 (carried_at (remove ports serial) inner outer)
carried_buried serial ports inner outer =
    ap (weight (λ _ p. carried_by inner p) outer)
    (get-map_values (queue_after_death serial) (remove ports serial) outer) ∙ each (get (remove ports serial) outer)
  where
    each : (o : Option PortState) → weight (λ _ p. carried_by inner p) outer (option_map (queue_after_death serial) o)
        ≡ cond {A = ℕ} (inner == serial) 0 (weight (λ _ p. carried_by inner p) outer o)
    each None = none_sum (inner == serial)
    each (Some port) = carried_after inner serial port.messages

carried_split : (serial : ℕ) (ports : Ports) (inner outer : ℕ)
    → carried_at ports inner outer
    ≡ carried_at (remove ports serial) inner outer + in_queue serial outer
    (carried_in inner (messages_at ports serial))
carried_split serial ports inner outer =
    sym (ap (λ (o : Option PortState). weight
    (λ _ p. carried_by inner p) outer o + in_queue serial outer (carried_in inner (messages_at ports serial)))
    (get-remove nat_cmp_total ports serial outer) ∙ by (eq_by_cmp nat_cmp outer serial) refl)
  where
    whole : (o : Option PortState)
        → weight (λ _ p. carried_by inner p) outer None + carried_in inner (messages_in o) ≡ weight
        (λ _ p. carried_by inner p) outer o
    whole None = refl
    whole (Some port) = omega arith

    by : (b : Bool) → eq_by_cmp nat_cmp outer serial ≡ b
        → weight (λ _ p. carried_by inner p) outer (cond b None (get ports outer)) + in_queue serial outer
        (carried_in inner (messages_at ports serial)) ≡ carried_at ports inner outer
    by true same =
        ap (λ (t : Bool). 0 + cond {A = ℕ} t (carried_in inner (messages_at ports serial)) 0)
        (turned serial outer ∙ sym (eq_cmp outer serial) ∙ same)
        ∙ whole (get ports serial) ∙ ap
        (λ (k : ℕ). weight (λ _ p. carried_by inner p) outer (get ports k)) (sym (key_is outer serial same))
    by false apart =
        omega (
          arith,
          ap (λ (t : Bool). cond {A = ℕ} t (carried_in inner (messages_at ports serial)) 0)
              (turned serial outer ∙ sym (eq_cmp outer serial) ∙ apart),
        )

-- requests are unchanged
target_buried : (look : PortState → Option ℕ)
    → ((serial : ℕ) (p : PortState) → look (queue_after_death serial p) ≡ look p) → (serial : ℕ) (ports : Ports)
    → target_at look ports serial ≡ None → (q : ℕ)
    → target_at look ports q ≡ target_at look (map_values (queue_after_death serial) (remove ports serial)) q
target_buried look stays serial ports none q =
    sym (ap (option_and_then look) (get_buried serial ports q) ∙ by (eq_by_cmp nat_cmp q serial) refl)
  where
    each : (o : Option PortState) → option_and_then look (option_map (queue_after_death serial) o)
        ≡ option_and_then look o
    each None = refl
    each (Some port) = stays serial port

    by : (b : Bool) → eq_by_cmp nat_cmp q serial ≡ b
        → option_and_then look (option_map (queue_after_death serial) (cond b None (get ports q)))
        ≡ target_at look ports q
    by true same = sym (ap (target_at look ports) (key_is q serial same) ∙ none)
    by false apart = each (get ports q)

-- a message that names a port after the death named it before
place_mentions : (serial s : ℕ) (port : PortInMessage) → is_port (carried_after_death serial port) s ≡ true
    → is_port port s ≡ true
place_mentions serial s in_message.Null to = to
place_mentions serial s in_message.Dead to = to
place_mentions serial s (in_message.Live other) to =
    elim (other == serial) as (λ (b : Bool). is_port (cond b in_message.Dead (in_message.Live other)) s ≡ true
    → (other == s) ≡ true) [
      | true ↦ λ (e : _). absurd (cc e)
      | false ↦ λ (e : _). e
    ] to

or_mono : (a b c d : Bool) → (a ≡ true → c ≡ true) → (b ≡ true → d ≡ true) → (a || b) ≡ true → (c || d) ≡ true
or_mono true b c d f g to = ap (λ (t : Bool). t || d) (f refl)
or_mono false b true d f g to = refl
or_mono false b false d f g to = g to

rights_mention : (serial s : ℕ) (rights : List CarriedRight)
    → list_any (is_to s) (map (right_after_death serial) rights) ≡ true → list_any (is_to s) rights ≡ true
rights_mention serial s [] to = to
rights_mention serial s (r ∷ rights) to =
    or_mono _ _ _ _ (place_mentions serial s r.port) (rights_mention serial s rights) to

reply_mentions : (serial s : ℕ) (reply : Option CarriedRight)
    → reply_is_to s (option_map (right_after_death serial) reply) ≡ true → reply_is_to s reply ≡ true
reply_mentions serial s None to = to
reply_mentions serial s (Some r) to = place_mentions serial s r.port to

messages_mention : (serial s : ℕ) (messages : List Message)
    → list_any (mentions s) (map (message_after_death serial) messages) ≡ true → list_any (mentions s) messages ≡ true
messages_mention serial s [] to = to
messages_mention serial s (m ∷ messages) to =
    or_mono _ _ _ _ (or_mono _ _ _ _ (reply_mentions serial s m.reply) (rights_mention serial s m.rights))
    (messages_mention serial s messages) to

small_buried : (table : PortTable) (serial : ℕ) → AreSmall table
    → AreSmall (record table { ports = map_values (queue_after_death serial) (remove table.ports serial) })
small_buried table serial small = record {
  below =
      λ k some. within k (eq_by_cmp nat_cmp k serial) (get table.ports k) refl
      (sym (ap is_some (get_buried serial table.ports k)) ∙ some);
  mentioned =
      λ k port at. each k port (eq_by_cmp nat_cmp k serial) (get table.ports k) refl
      (sym (get_buried serial table.ports k) ∙ at);
  fits = small.fits;
}
  where
    within : (k : ℕ) (b : Bool) (o : Option PortState) → get table.ports k ≡ o
        → is_some (option_map (queue_after_death serial) (cond b None o)) ≡ true → k < table.next
    within k true o there some = absurd (cc some)
    within k false None there some = absurd (cc some)
    within k false (Some port) there some = small.below k (ap is_some there)

    each : (k : ℕ) (port : PortState) (b : Bool) (o : Option PortState) → get table.ports k ≡ o
        → option_map (queue_after_death serial) (cond b None o) ≡ Some port
        → Fit (λ s. list_any (mentions s) port.messages)
    each k port true o there at = absurd (cc at)
    each k port false None there at = absurd (cc at)
    each k port false (Some p) there at =
        subst (λ (x : PortState). Fit (λ s. list_any (mentions s) x.messages))
        (some_same (queue_after_death serial p) port at)
        (λ s to. small.mentioned k p there s (messages_mention serial s p.messages to))

own_fit : (table : PortTable) (serial : ℕ) → AreSmall table
    → Fit (λ s. list_any (mentions s) (messages_at table.ports serial))
own_fit table serial small = by (get table.ports serial) refl
  where
    by : (o : Option PortState) → get table.ports serial ≡ o → Fit (λ s. list_any (mentions s) (messages_in o))
    by None none = λ s to. absurd (cc to)
    by (Some port) there = small.mentioned serial port there

blind_to : (what wanted : RightKind) (s serial : ℕ) → (s == serial) ≡ false → right_weight wanted s what serial ≡ 0
blind_to what wanted s serial apart = not_both (same_kind what wanted) (serial == s) (turned serial s ∙ apart)

only_to : (wanted what : RightKind) (serial port : ℕ) → (port == serial) ≡ false
    → right_weight wanted serial what port ≡ 0
only_to wanted what serial port apart = not_both (same_kind what wanted) (port == serial) apart

-- the indexes after the death
pub buried_indexed : (table after : PortTable) (old new : PortIndexes) (serial : ℕ) → serial < 2 ^ 64
    → IsUntargeted serial table.ports
    → after ≡ record table { ports = map_values (queue_after_death serial) (remove table.ports serial) }
    → AreWithout old new serial (messages_at table.ports serial) → AreIndexed table (present_parts old)
    → AreIndexed after (present_parts new)
buried_indexed table after old new serial fits untargeted is done are =
    subst (λ (t : PortTable). AreIndexed t (present_parts new)) (sym is) (record {
      counted =
          subst (AreCounted (weighed (map_values (queue_after_death serial) (remove table.ports serial))))
          (sym done.counts)
          (cleared_counts (weighed (remove table.ports serial)) _ _ serial fits
          (λ what s apart. weighed_blind (right_weight what s) serial
          (λ w. blind_to w what s serial apart) (remove table.ports serial))
          (λ what. weighed_only (right_weight what serial) serial
          (λ w port apart. only_to what w serial port apart) table.ports untargeted) fewer);
      carried =
          λ inner outer small. done.carriers inner outer small
          ∙ ap (cond {A = ℕ} (inner == serial) 0) (queue_gone inner outer small)
          ∙ sym (carried_buried serial table.ports inner outer);
      no_senders =
          subst (IsIndexed (target_at no_senders_of (map_values (queue_after_death serial)
          (remove table.ports serial))))
          (sym done.no_senders)
          (alike_indexed (target_at no_senders_of table.ports) _ old.no_senders.current
          (λ q _. target_buried no_senders_of (λ s p. refl) serial table.ports untargeted.none_asked q) are.no_senders);
      destroyed =
          subst (IsIndexed (target_at destroyed_of (map_values (queue_after_death serial) (remove table.ports serial))))
          (sym done.destroyed)
          (alike_indexed (target_at destroyed_of table.ports) _ old.port_destroyed.current
          (λ q _. target_buried destroyed_of (λ s p. refl) serial table.ports untargeted.none_notified q)
          are.destroyed);
      small = small_buried table serial are.small;
    })
  where
    fewer : AreCounted (weighed (remove table.ports serial))
        (messages_fewer old.counts.current serial (messages_at table.ports serial))
    fewer =
        messages_counted_fewer (weighed (remove table.ports serial)) old.counts.current serial
        (messages_at table.ports serial) fits (own_fit table serial are.small)
        (counted_same (weighed table.ports)
        (λ (w : Weight). weighed (remove table.ports serial) w + weigh (message_weigh w serial)
        (messages_at table.ports serial)) old.counts.current
        (λ w. omega (arith, total-remove (port_weigh w) table.ports serial, own_weight w serial table.ports untargeted))
        are.counted)

    queue_gone : AreCarried (carried_at (remove table.ports serial))
        (queue_fewer old.carriers.current serial (messages_at table.ports serial))
    queue_gone =
        queue_carried_fewer (carried_at (remove table.ports serial)) old.carriers.current serial
        (messages_at table.ports serial) fits
        (λ inner outer small. are.carried inner outer small ∙ carried_split serial table.ports inner outer)
