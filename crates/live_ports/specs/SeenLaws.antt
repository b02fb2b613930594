-- The effect of a change of the ports on the ports as they are shown.
use Rattle.std.proofs.Common.{suc, ◌≡◌, ℕ, ◌<◌, ◌≤◌, ◌==◌, cond, true, false, Bool, ◌||◌, List, [], ◌∷◌, ◌++◌, map, drop, length, Option, None, Some, is_some, option_map, MatchOption, Bor, slice_index_or, refl, sym, ◌∙◌, ap, subst, arith}
use Rattle.std.proofs.Math.ListN.{get_or-map}
use Rattle.std.proofs.lemmas.Bool.{eqb-true, eq-eqb}
use Rattle.std.specs.List.{list_any}
use Rattle.std.specs.Cmp.{nat_cmp_total}
use Rattle.std.specs.Ordering.{nat_cmp, eq_by_cmp}
use Rattle.std.specs.FinMap.{get, insert, remove, len, empty, get-empty, get-insert, get-remove, same_map, nat_cmp-IsAntisymmetric}
use Rattle.ipc_model.specs.declared.message.CarriedRight.{CarriedRight}
use Rattle.ipc_model.specs.declared.message.Message.{Message}
use Rattle.ipc_model.specs.declared.message.PortInMessage.{PortInMessage}
use Rattle.ipc_model.specs.declared.message.PortInMessage.TheVariants as in_message
use Rattle.ipc_model.specs.declared.port.PortState.{PortState}
use Rattle.ipc_model.specs.effects.Effects.{map_values, carried_after_death, right_after_death, message_after_death}
use Rattle.ipc_model.specs.state.Circular.{is_port}
use Rattle.ipc_model.specs.state.Ipc.{new_port}
use Rattle.ipc_laws.specs.MapLaws.{get-map_values, len-map_values}
use Rattle.ipc_laws.specs.MapSums.{key_is, same_key}
use Rattle.live_ports.specs.Changed.{IsMessageAt, changed, messages_in, numbers_of, with_message, without_first}
use Rattle.live_ports.specs.Seen.{Ports, lives_in, seen_port, seen_right, seen_message, seen, as_seen, is_to, reply_is_to, mentions, AreLive, queue_after_death, AreBelow}

map_alike : {A B : Type 0} (f g : A → B) (xs : List A) → ((x : A) → f x ≡ g x) → map f xs ≡ map g xs
map_alike f g [] alike = refl
map_alike f g (x ∷ xs) alike = (λ i. alike x i ∷ map_alike f g xs alike i)

map_twice : {A B C : Type 0} (g : B → C) (f : A → B) (xs : List A) → map g (map f xs) ≡ map (λ x. g (f x)) xs
map_twice g f [] = refl
map_twice g f (x ∷ xs) = ap (λ l. g (f x) ∷ l) (map_twice g f xs)

map_append : {A B : Type 0} (f : A → B) (xs ys : List A) → map f (xs ++ ys) ≡ map f xs ++ map f ys
map_append f [] ys = refl
map_append f (x ∷ xs) ys = ap (λ l. f x ∷ l) (map_append f xs ys)

left_true : (a b : Bool) → a ≡ true → (a || b) ≡ true
left_true true b e = refl
left_true false b e = absurd (cc e)

right_true : (a b : Bool) → b ≡ true → (a || b) ≡ true
right_true true b e = refl
right_true false b e = e

same : (m n : Ports) → ((q : ℕ) → get m q ≡ get n q) → m ≡ n
same m n alike = same_map nat_cmp_total nat_cmp-IsAntisymmetric m n alike

-- two sets of live ports agree on all mentioned ports; messages with these ports are shown in the same way by both
abbrev Agree : (ℕ → Bool) → (ℕ → Bool) → (ℕ → Bool) → Type 0
Agree mentioned l k = (serial : ℕ) → mentioned serial ≡ true → l serial ≡ k serial

port_alike : (l k : ℕ → Bool) (port : PortInMessage) → Agree (λ s. is_port port s) l k
    → seen_port l port ≡ seen_port k port
port_alike l k in_message.Null agree = refl
port_alike l k in_message.Dead agree = refl
port_alike l k (in_message.Live s) agree =
    ap (λ (b : Bool). cond b (in_message.Live s) in_message.Dead) (agree s (eq-eqb s s refl))

right_alike : (l k : ℕ → Bool) (carried : CarriedRight) → Agree (λ s. is_to s carried) l k
    → seen_right l carried ≡ seen_right k carried
right_alike l k carried agree =
    ap (λ (p : PortInMessage). record carried { port = p }) (port_alike l k carried.port agree)

rights_alike : (l k : ℕ → Bool) (rights : List CarriedRight) → Agree (λ s. list_any (is_to s) rights) l k
    → map (seen_right l) rights ≡ map (seen_right k) rights
rights_alike l k [] agree = refl
rights_alike l k (r ∷ rights) agree = λ i.
    right_alike l k r (λ s to. agree s (left_true (is_to s r) (list_any (is_to s) rights) to)) i ∷ rights_alike l k
    rights (λ s to. agree s (right_true (is_to s r) (list_any (is_to s) rights) to)) i

reply_alike : (l k : ℕ → Bool) (reply : Option CarriedRight) → Agree (λ s. reply_is_to s reply) l k
    → option_map (seen_right l) reply ≡ option_map (seen_right k) reply
reply_alike l k None agree = refl
reply_alike l k (Some r) agree = ap Some (right_alike l k r agree)

pub message_alike : (l k : ℕ → Bool) (message : Message) → Agree (λ s. mentions s message) l k
    → seen_message l message ≡ seen_message k message
message_alike l k message agree =
    let first =
    reply_alike l k message.reply
    (λ s to. agree s (left_true (reply_is_to s message.reply) (list_any (is_to s) message.rights) to)) in
    let second =
    rights_alike l k message.rights
    (λ s to. agree s (right_true (reply_is_to s message.reply) (list_any (is_to s) message.rights) to)) in
    λ i. record message { reply = first i; rights = second i }

messages_alike : (l k : ℕ → Bool) (messages : List Message) → Agree (λ s. list_any (mentions s) messages) l k
    → map (seen_message l) messages ≡ map (seen_message k) messages
messages_alike l k [] agree = refl
messages_alike l k (m ∷ ms) agree = λ i.
    message_alike l k m (λ s to. agree s (left_true (mentions s m) (list_any (mentions s) ms) to)) i ∷ messages_alike l
    k ms (λ s to. agree s (right_true (mentions s m) (list_any (mentions s) ms) to)) i

pub seen_alike : (l k : ℕ → Bool) (port : PortState) → Agree (λ s. list_any (mentions s) port.messages) l k
    → seen l port ≡ seen k port
seen_alike l k port agree =
    ap (λ (ms : List Message). record port { messages = ms }) (messages_alike l k port.messages agree)

-- if all ports are live, messages are shown unchanged
all_port : (port : PortInMessage) → seen_port (λ _. true) port ≡ port
all_port in_message.Null = refl
all_port in_message.Dead = refl
all_port (in_message.Live s) = refl

all_right : (carried : CarriedRight) → seen_right (λ _. true) carried ≡ carried
all_right carried = ap (λ (p : PortInMessage). record carried { port = p }) (all_port carried.port)

all_rights : (rights : List CarriedRight) → map (seen_right (λ _. true)) rights ≡ rights
all_rights [] = refl
all_rights (r ∷ rights) = λ i. all_right r i ∷ all_rights rights i

all_reply : (reply : Option CarriedRight) → option_map (seen_right (λ _. true)) reply ≡ reply
all_reply None = refl
all_reply (Some r) = ap Some (all_right r)

pub live_message : (ports : Ports) (message : Message) → AreLive ports message
    → seen_message (lives_in ports) message ≡ message
live_message ports message live =
    message_alike (lives_in ports) (λ _. true) message live ∙
    (λ i. record message { reply = all_reply message.reply i; rights = all_rights message.rights i })

-- the port that is shown for a serial
pub get_seen : (raw : Ports) (q : ℕ) → get (as_seen raw) q ≡ option_map (seen (lives_in raw)) (get raw q)
unfolding as_seen
get_seen raw q = get-map_values (seen (lives_in raw)) raw q

pub len_seen : (raw : Ports) → len (as_seen raw) ≡ len raw
unfolding as_seen
len_seen raw = len-map_values (seen (lives_in raw)) raw

some_mapped : (f : PortState → PortState) (o : Option PortState) → is_some (option_map f o) ≡ is_some o
some_mapped f None = refl
some_mapped f (Some p) = refl

pub lives_seen : (raw : Ports) (q : ℕ) → lives_in (as_seen raw) q ≡ lives_in raw q
lives_seen raw q = ap is_some (get_seen raw q) ∙ some_mapped (seen (lives_in raw)) (get raw q)

pub seen_empty : as_seen empty ≡ empty
seen_empty =
    same _ _ (λ q. get_seen empty q ∙ ap (option_map (seen (lives_in empty))) (get-empty nat_cmp q)
    ∙ sym (get-empty nat_cmp q))

pub get_changed : (ports : Ports) (s : ℕ) (f : PortState → PortState) (q : ℕ)
    → get (changed ports s f) q ≡ cond (eq_by_cmp nat_cmp q s) (option_map f (get ports s)) (get ports q)
get_changed ports s f q = by (get ports s) refl
  where
    at : (b : Bool) → eq_by_cmp nat_cmp q s ≡ b → get ports s ≡ None → get ports q ≡ cond b None (get ports q)
    at true is none = ap (get ports) (key_is q s is) ∙ none
    at false is none = refl

    by : (o : Option PortState) → get ports s ≡ o
        → get (elim o as (λ _. Ports) [ None ↦ ports | Some port ↦ insert ports s (f port) ]) q
        ≡ cond (eq_by_cmp nat_cmp q s) (option_map f o) (get ports q)
    by None is = at (eq_by_cmp nat_cmp q s) refl is
    by (Some port) is = get-insert nat_cmp_total ports s (f port) q

lives_changed : (ports : Ports) (s : ℕ) (f : PortState → PortState) (q : ℕ)
    → lives_in (changed ports s f) q ≡ lives_in ports q
lives_changed ports s f q = ap is_some (get_changed ports s f q) ∙ at (eq_by_cmp nat_cmp q s) refl
  where
    at : (b : Bool) → eq_by_cmp nat_cmp q s ≡ b
        → is_some (cond b (option_map f (get ports s)) (get ports q)) ≡ is_some (get ports q)
    at true is = some_mapped f (get ports s) ∙ ap (λ k. is_some (get ports k)) (sym (key_is q s is))
    at false is = refl

-- a change of a port that has the same effect on the port as it is shown
pub seen_changed : (raw : Ports) (s : ℕ) (f g : PortState → PortState)
    → ((port : PortState) → seen (lives_in raw) (f port) ≡ g (seen (lives_in raw) port))
    → as_seen (changed raw s f) ≡ changed (as_seen raw) s g
seen_changed raw s f g sees = same _ _ (λ q.
    get_seen (changed raw s f) q ∙ (λ i. option_map (seen (λ k. lives_changed raw s f k i)) (get (changed raw s f) q))
    ∙ ap (option_map (seen (lives_in raw))) (get_changed raw s f q) ∙ at q (eq_by_cmp nat_cmp q s)
    ∙ sym (get_changed (as_seen raw) s g q ∙
    (λ i. cond (eq_by_cmp nat_cmp q s) (option_map g (get_seen raw s i)) (get_seen raw q i))))
  where
    here : (o : Option PortState) → option_map (seen (lives_in raw)) (option_map f o)
        ≡ option_map g (option_map (seen (lives_in raw)) o)
    here None = refl
    here (Some port) = ap Some (sees port)

    at : (q : ℕ) (b : Bool) → option_map (seen (lives_in raw)) (cond b (option_map f (get raw s)) (get raw q))
        ≡ cond b (option_map g (option_map (seen (lives_in raw)) (get raw s)))
        (option_map (seen (lives_in raw)) (get raw q))
    at q true = here (get raw s)
    at q false = refl

-- a message that is appended to a queue
pub seen_pushed : (raw : Ports) (s : ℕ) (message : Message) → AreLive (as_seen raw) message
    → as_seen (changed raw s (with_message message)) ≡ changed (as_seen raw) s (with_message message)
seen_pushed raw s message live = seen_changed raw s (with_message message) (with_message message) (λ port.
    ap (λ (ms : List Message). record port { messages = ms })
    (map_append (seen_message (lives_in raw)) port.messages (message ∷ [])
    ∙ ap (λ (m : Message). map (seen_message (lives_in raw)) port.messages ++ m ∷ [])
    (live_message raw message (λ k to. sym (lives_seen raw k) ∙ live k to))))

-- a message that is removed from a queue
map_after : {A B : Type 0} (f : A → B) (xs : List A) → map f (drop 1 xs) ≡ drop 1 (map f xs)
map_after f [] = refl
map_after f (x ∷ xs) = refl

pub seen_taken : (raw : Ports) (s : ℕ) → as_seen (changed raw s without_first) ≡ changed (as_seen raw) s without_first
seen_taken raw s =
    seen_changed raw s without_first without_first
    (λ port. ap (λ (ms : List Message). record port { messages = ms })
    (map_after (seen_message (lives_in raw)) port.messages))

-- a port that dies
lives_removed : (raw : Ports) (s k : ℕ)
    → lives_in (remove raw s) k ≡ cond (eq_by_cmp nat_cmp k s) false (lives_in raw k)
lives_removed raw s k = ap is_some (get-remove nat_cmp_total raw s k) ∙ at (eq_by_cmp nat_cmp k s)
  where
    at : (b : Bool) → is_some (cond b None (get raw k)) ≡ cond b false (is_some (get raw k))
    at true = refl
    at false = refl

port_removed : (raw : Ports) (s : ℕ) (port : PortInMessage)
    → seen_port (lives_in (remove raw s)) port ≡ carried_after_death s (seen_port (lives_in raw) port)
port_removed raw s in_message.Null = refl
port_removed raw s in_message.Dead = refl
port_removed raw s (in_message.Live k) =
    ap (λ (b : Bool). cond b (in_message.Live k) in_message.Dead) (lives_removed raw s k)
    ∙ at (eq_by_cmp nat_cmp k s) refl (k == s) refl (lives_in raw k)
  where
    at : (b : Bool) → eq_by_cmp nat_cmp k s ≡ b → (c : Bool) → (k == s) ≡ c → (l : Bool)
        → cond (cond b false l) (in_message.Live k) in_message.Dead
        ≡ carried_after_death s (cond l (in_message.Live k) in_message.Dead)
    at b is c same false = ap (λ (x : Bool). cond x (in_message.Live k) in_message.Dead) (none b)
      where
        none : (b : Bool) → cond b false false ≡ false
        none true = refl
        none false = refl
    at true is true same true = sym (ap (λ (x : Bool). cond x in_message.Dead (in_message.Live k)) same)
    at false is false same true = sym (ap (λ (x : Bool). cond x in_message.Dead (in_message.Live k)) same)
    at true is false same true = absurd (cc (sym (eq-eqb k s (key_is k s is)) ∙ same))
    at false is true same true = absurd (cc (sym is ∙ ap (λ q. eq_by_cmp nat_cmp q s) (eqb-true k s same) ∙ same_key s))

right_removed : (raw : Ports) (s : ℕ) (carried : CarriedRight)
    → seen_right (lives_in (remove raw s)) carried ≡ right_after_death s (seen_right (lives_in raw) carried)
right_removed raw s carried = ap (λ (p : PortInMessage). record carried { port = p }) (port_removed raw s carried.port)

reply_removed : (raw : Ports) (s : ℕ) (reply : Option CarriedRight)
    → option_map (seen_right (lives_in (remove raw s))) reply
    ≡ option_map (right_after_death s) (option_map (seen_right (lives_in raw)) reply)
reply_removed raw s None = refl
reply_removed raw s (Some r) = ap Some (right_removed raw s r)

message_removed : (raw : Ports) (s : ℕ) (message : Message)
    → seen_message (lives_in (remove raw s)) message ≡ message_after_death s (seen_message (lives_in raw) message)
message_removed raw s message =
    let rights =
    map_alike _ _ message.rights (right_removed raw s)
    ∙ sym (map_twice (right_after_death s) (seen_right (lives_in raw)) message.rights) in
    λ i. record message { reply = reply_removed raw s message.reply i; rights = rights i }

port_seen_removed : (raw : Ports) (s : ℕ) (port : PortState)
    → seen (lives_in (remove raw s)) port ≡ queue_after_death s (seen (lives_in raw) port)
port_seen_removed raw s port =
    ap (λ (ms : List Message). record port { messages = ms })
    (map_alike _ _ port.messages (message_removed raw s)
    ∙ sym (map_twice (message_after_death s) (seen_message (lives_in raw)) port.messages))

pub seen_removed : (raw : Ports) (s : ℕ)
    → as_seen (remove raw s) ≡ map_values (queue_after_death s) (remove (as_seen raw) s)
seen_removed raw s = same _ _ (λ q.
    get_seen (remove raw s) q ∙ ap (option_map (seen (lives_in (remove raw s)))) (get-remove nat_cmp_total raw s q)
    ∙ at q (eq_by_cmp nat_cmp q s)
    ∙ sym (get-map_values (queue_after_death s) (remove (as_seen raw) s) q
    ∙ ap (option_map (queue_after_death s))
    (get-remove nat_cmp_total (as_seen raw) s q ∙ ap (cond (eq_by_cmp nat_cmp q s) None) (get_seen raw q))))
  where
    each : (o : Option PortState) → option_map (seen (lives_in (remove raw s))) o
        ≡ option_map (queue_after_death s) (option_map (seen (lives_in raw)) o)
    each None = refl
    each (Some port) = ap Some (port_seen_removed raw s port)

    at : (q : ℕ) (b : Bool) → option_map (seen (lives_in (remove raw s))) (cond b None (get raw q))
        ≡ option_map (queue_after_death s) (cond b None (option_map (seen (lives_in raw)) (get raw q)))
    at q true = refl
    at q false = each (get raw q)

-- a new port, which is in no message
pub seen_added : (raw : Ports) (next : ℕ) → AreBelow next raw
    → as_seen (insert raw next new_port) ≡ insert (as_seen raw) next new_port
seen_added raw next below = same _ _ (λ q.
    get_seen (insert raw next new_port) q
    ∙ ap (option_map (seen (lives_in (insert raw next new_port)))) (get-insert nat_cmp_total raw next new_port q)
    ∙ at q (eq_by_cmp nat_cmp q next)
    ∙ sym (get-insert nat_cmp_total (as_seen raw) next new_port q
    ∙ ap (cond (eq_by_cmp nat_cmp q next) (Some new_port)) (get_seen raw q)))
  where
    still : (k : ℕ) → k < next → lives_in (insert raw next new_port) k ≡ lives_in raw k
    still k less = ap is_some (get-insert nat_cmp_total raw next new_port k) ∙ by (eq_by_cmp nat_cmp k next) refl
      where
        by : (b : Bool) → eq_by_cmp nat_cmp k next ≡ b
            → is_some (cond b (Some new_port) (get raw k)) ≡ is_some (get raw k)
        by true is = absurd (omega (arith, less, key_is k next is))
        by false is = refl

    each : (q : ℕ) (o : Option PortState) → get raw q ≡ o
        → option_map (seen (lives_in (insert raw next new_port))) o ≡ option_map (seen (lives_in raw)) o
    each q None is = refl
    each q (Some port) is = ap Some (seen_alike _ _ port (λ k to. still k ((below q port is).mentioned k to)))

    at : (q : ℕ) (b : Bool) → option_map (seen (lives_in (insert raw next new_port)))
        (cond b (Some new_port) (get raw q)) ≡ cond b (Some new_port) (option_map (seen (lives_in raw)) (get raw q))
    at q true = refl
    at q false = each q (get raw q) refl

-- The queries on a port as it is shown.
pub length_mapped : {A B : Type 0} (f : A → B) (xs : List A) → length (map f xs) ≡ length xs
length_mapped f [] = refl
length_mapped f (x ∷ xs) = ap suc (length_mapped f xs)

pub seen_numbers : (raw : Ports) (q : ℕ)
    → option_map numbers_of (get raw q) ≡ option_map numbers_of (get (as_seen raw) q)
seen_numbers raw q = each (get raw q) ∙ ap (option_map numbers_of) (sym (get_seen raw q))
  where
    each : (o : Option PortState) → option_map numbers_of o ≡ option_map numbers_of (option_map (seen (lives_in raw)) o)
    each None = refl
    each (Some port) = refl

pub seen_count : (raw : Ports) (q : ℕ) → length (messages_in (get raw q)) ≡ length (messages_in (get (as_seen raw) q))
seen_count raw q = each (get raw q) ∙ ap (λ (o : Option PortState). length (messages_in o)) (sym (get_seen raw q))
  where
    each : (o : Option PortState) → length (messages_in o) ≡ length (messages_in (option_map (seen (lives_in raw)) o))
    each None = refl
    each (Some port) = sym (length_mapped (seen_message (lives_in raw)) port.messages)

-- the death of a dead port
pub seen_dead : (raw : Ports) (s : ℕ) → lives_in raw s ≡ false
    → as_seen raw ≡ map_values (queue_after_death s) (remove (as_seen raw) s)
seen_dead raw s dead =
    ap as_seen (same raw (remove raw s)
    (λ q. sym (get-remove nat_cmp_total raw s q ∙ at q (eq_by_cmp nat_cmp q s) refl))) ∙ seen_removed raw s
  where
    none : (o : Option PortState) → is_some o ≡ false → None ≡ o
    none None e = refl
    none (Some port) e = absurd (cc e)

    at : (q : ℕ) (b : Bool) → eq_by_cmp nat_cmp q s ≡ b → cond b None (get raw q) ≡ get raw q
    at q true is = none (get raw q) (ap (λ k. is_some (get raw k)) (key_is q s is) ∙ dead)
    at q false is = refl

-- the message at an index in a port's queue as it was sent, or None if there is none
abbrev pub IsSeenAt : Ports → ℕ → ℕ → Option (Bor Message) → Type 0
IsSeenAt ports serial index found = MatchOption found (length (messages_in (get ports serial)) ≤ index)
    (λ message. (index < length (messages_in (get ports serial)))
    × (seen_message (lives_in ports) message.now
    ≡ slice_index_or (messages_in (get ports serial)) index (seen_message (lives_in ports) message.now)))

messages_seen : (raw : Ports) (q : ℕ)
    → messages_in (get (as_seen raw) q) ≡ map (seen_message (lives_in raw)) (messages_in (get raw q))
messages_seen raw q = ap messages_in (get_seen raw q) ∙ each (get raw q)
  where
    each : (o : Option PortState) → messages_in (option_map (seen (lives_in raw)) o)
        ≡ map (seen_message (lives_in raw)) (messages_in o)
    each None = refl
    each (Some port) = refl

pub seen_message_at : (raw : Ports) (q index : ℕ) (found : Option (Bor Message))
    → IsMessageAt (messages_in (get raw q)) index found → IsSeenAt (as_seen raw) q index found
seen_message_at raw q index None past = omega (arith, past, seen_count raw q)
seen_message_at raw q index (Some message) is = (omega (arith, is.0, seen_count raw q), shown)
  where
    alive : lives_in raw ≡ lives_in (as_seen raw)
    alive = λ i. λ (k : ℕ). sym (lives_seen raw k) i

    here : seen_message (lives_in raw) message.now
        ≡ slice_index_or (messages_in (get (as_seen raw) q)) index (seen_message (lives_in raw) message.now)
    here =
        ap (seen_message (lives_in raw)) is.1
        ∙ sym (get_or-map (seen_message (lives_in raw)) (messages_in (get raw q)) index message.now)
        ∙ ap (λ (ms : List Message). slice_index_or ms index (seen_message (lives_in raw) message.now))
        (sym (messages_seen raw q))

    shown : seen_message (lives_in (as_seen raw)) message.now
        ≡ slice_index_or (messages_in (get (as_seen raw) q)) index (seen_message (lives_in (as_seen raw)) message.now)
    shown =
        subst (λ (l : ℕ → Bool). seen_message l message.now
        ≡ slice_index_or (messages_in (get (as_seen raw) q)) index (seen_message l message.now)) alive here
