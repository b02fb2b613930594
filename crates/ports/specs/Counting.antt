-- Counts of the rights in messages and requests, and of receive rights by the queues that contain them: additions and
-- subtractions.
use Rattle.std.proofs.Common.{◌≡◌, ℕ, ◌+◌, ◌^◌, ◌<◌, ◌==◌, Bool, true, false, cond, ◌&&◌, ◌||◌, List, [], ◌∷◌, Option, None, Some, refl, sym, ◌∙◌, ap, arith}
use Rattle.std.proofs.lemmas.Bool.{eq-eqb}
use Rattle.std.specs.List.{list_any}
use Rattle.ipc_laws.specs.MapSums.{weigh}
use Rattle.ipc_laws.specs.Weights.{Weight, target_weigh, place_weigh, carried_weigh, reply_weigh, message_weigh}
use Rattle.ipc_model.specs.declared.message.CarriedRight.{CarriedRight}
use Rattle.ipc_model.specs.declared.message.Message.{Message}
use Rattle.ipc_model.specs.declared.message.PortInMessage.{PortInMessage}
use Rattle.ipc_model.specs.declared.message.PortInMessage.TheVariants as in_message
use Rattle.ipc_model.specs.declared.message.RightKind.{RightKind}
use Rattle.ipc_model.specs.declared.message.RightKind.TheVariants as kind
use Rattle.ipc_model.specs.state.Circular.{is_port, is_receive_right}
use Rattle.ipc_model.specs.state.Placed.{same_kind}
use Rattle.live_ports.specs.Seen.{is_to, reply_is_to, mentions}
use Rattle.port_indexes.specs.Counts.{Counts, count_at}
use Rattle.port_indexes.specs.Rights.{AreCounted, one_more, one_fewer, right_more, right_fewer, count_more, count_fewer, counted_more, counted_fewer, counted_same, turned}

-- the counts with a carried right added, if it has a live port
abbrev pub place_more : Counts → RightKind → PortInMessage → Counts
place_more counts kind in_message.Null = counts
place_more counts kind in_message.Dead = counts
place_more counts kind (in_message.Live port) = right_more counts kind port

abbrev pub carried_more : Counts → CarriedRight → Counts
carried_more counts carried = place_more counts carried.kind carried.port

abbrev pub reply_more : Counts → Option CarriedRight → Counts
reply_more counts None = counts
reply_more counts (Some carried) = carried_more counts carried

abbrev pub rights_more : Counts → List CarriedRight → Counts
rights_more counts [] = counts
rights_more counts (carried ∷ rights) = rights_more (carried_more counts carried) rights

abbrev pub message_more : Counts → ℕ → Message → Counts
message_more counts queue message =
    rights_more (reply_more (right_more counts message.destination queue) message.reply) message.rights

abbrev pub target_more : Counts → Option ℕ → Counts
target_more counts None = counts
target_more counts (Some target) = right_more counts kind.SendOnce target

-- the counts with a carried right subtracted, if it has a live port
abbrev pub place_fewer : Counts → RightKind → PortInMessage → Counts
place_fewer counts kind in_message.Null = counts
place_fewer counts kind in_message.Dead = counts
place_fewer counts kind (in_message.Live port) = right_fewer counts kind port

abbrev pub carried_fewer : Counts → CarriedRight → Counts
carried_fewer counts carried = place_fewer counts carried.kind carried.port

abbrev pub reply_fewer : Counts → Option CarriedRight → Counts
reply_fewer counts None = counts
reply_fewer counts (Some carried) = carried_fewer counts carried

abbrev pub rights_fewer : Counts → List CarriedRight → Counts
rights_fewer counts [] = counts
rights_fewer counts (carried ∷ rights) = rights_fewer (carried_fewer counts carried) rights

abbrev pub message_fewer : Counts → ℕ → Message → Counts
message_fewer counts queue message =
    rights_fewer (reply_fewer (right_fewer counts message.destination queue) message.reply) message.rights

abbrev pub messages_fewer : Counts → ℕ → List Message → Counts
messages_fewer counts queue [] = counts
messages_fewer counts queue (message ∷ messages) = messages_fewer (message_fewer counts queue message) queue messages

abbrev pub target_fewer : Counts → Option ℕ → Counts
target_fewer counts None = counts
target_fewer counts (Some target) = right_fewer counts kind.SendOnce target

-- the counts of carried receive rights, with one added and with one subtracted
abbrev pub carrier_more : Counts → ℕ → RightKind → PortInMessage → Counts
carrier_more carriers outer kind.Receive in_message.Null = carriers
carrier_more carriers outer kind.Receive in_message.Dead = carriers
carrier_more carriers outer kind.Receive (in_message.Live inner) = one_more carriers inner outer
carrier_more carriers outer kind.Send port = carriers
carrier_more carriers outer kind.SendOnce port = carriers

abbrev pub carriers_more : Counts → ℕ → List CarriedRight → Counts
carriers_more carriers outer [] = carriers
carriers_more carriers outer (carried ∷ rights) =
    carriers_more (carrier_more carriers outer carried.kind carried.port) outer rights

abbrev pub carrier_fewer : Counts → ℕ → RightKind → PortInMessage → Counts
carrier_fewer carriers outer kind.Receive in_message.Null = carriers
carrier_fewer carriers outer kind.Receive in_message.Dead = carriers
carrier_fewer carriers outer kind.Receive (in_message.Live inner) = one_fewer carriers inner outer
carrier_fewer carriers outer kind.Send port = carriers
carrier_fewer carriers outer kind.SendOnce port = carriers

abbrev pub carriers_fewer : Counts → ℕ → List CarriedRight → Counts
carriers_fewer carriers outer [] = carriers
carriers_fewer carriers outer (carried ∷ rights) =
    carriers_fewer (carrier_fewer carriers outer carried.kind carried.port) outer rights

abbrev pub queue_fewer : Counts → ℕ → List Message → Counts
queue_fewer carriers outer [] = carriers
queue_fewer carriers outer (message ∷ messages) =
    queue_fewer (carriers_fewer carriers outer message.rights) outer messages

-- every mentioned port has a serial of 64 bits
abbrev pub Fit : (ℕ → Bool) → Type 0
Fit mentioned = (serial : ℕ) → mentioned serial ≡ true → serial < 2 ^ 64

abbrev pub TargetFits : Option ℕ → Type 0
TargetFits None = Unit {0}
TargetFits (Some target) = target < 2 ^ 64

front : (a b : Bool) → a ≡ true → (a || b) ≡ true
front true b e = refl
front false b e = absurd (cc e)

back : (a b : Bool) → b ≡ true → (a || b) ≡ true
back true b e = refl
back false b e = e

-- The values that are counted.
pub place_counted_more : (f : Weight → ℕ) (counts : Counts) (what : RightKind) (port : PortInMessage)
    → Fit (is_port port) → AreCounted f counts
    → AreCounted (λ w. f w + place_weigh w what port) (place_more counts what port)
place_counted_more f counts what in_message.Null fit are = counted_same f _ counts (λ w. omega arith) are
place_counted_more f counts what in_message.Dead fit are = counted_same f _ counts (λ w. omega arith) are
place_counted_more f counts what (in_message.Live port) fit are =
    counted_more f counts what port (fit port (eq-eqb port port refl)) are

pub reply_counted_more : (f : Weight → ℕ) (counts : Counts) (reply : Option CarriedRight)
    → Fit (λ s. reply_is_to s reply) → AreCounted f counts
    → AreCounted (λ w. f w + reply_weigh w reply) (reply_more counts reply)
reply_counted_more f counts None fit are = counted_same f _ counts (λ w. omega arith) are
reply_counted_more f counts (Some carried) fit are = place_counted_more f counts carried.kind carried.port fit are

pub rights_counted_more : (f : Weight → ℕ) (counts : Counts) (rights : List CarriedRight)
    → Fit (λ s. list_any (is_to s) rights) → AreCounted f counts
    → AreCounted (λ w. f w + weigh (carried_weigh w) rights) (rights_more counts rights)
rights_counted_more f counts [] fit are = counted_same f _ counts (λ w. omega arith) are
rights_counted_more f counts (r ∷ rights) fit are =
    counted_same (λ (w : Weight). (f w + carried_weigh w r) + weigh (carried_weigh w) rights) _ _ (λ w. omega arith)
    (rights_counted_more (λ (w : Weight). f w + carried_weigh w r) (carried_more counts r) rights
    (λ s to. fit s (back (is_to s r) (list_any (is_to s) rights) to))
    (place_counted_more f counts r.kind r.port (λ s to. fit s (front (is_to s r) (list_any (is_to s) rights) to)) are))

pub message_counted_more : (f : Weight → ℕ) (counts : Counts) (queue : ℕ) (message : Message) → queue < 2 ^ 64
    → Fit (λ s. mentions s message) → AreCounted f counts
    → AreCounted (λ w. f w + message_weigh w queue message) (message_more counts queue message)
message_counted_more f counts queue message small fit are =
    counted_same (λ (w : Weight). ((f w + w message.destination queue) + reply_weigh w message.reply) + weigh
    (carried_weigh w) message.rights) _ _ (λ w. omega arith)
    (rights_counted_more (λ (w : Weight). (f w + w message.destination queue) + reply_weigh w message.reply) _
    message.rights (λ s to. fit s (back (reply_is_to s message.reply) (list_any (is_to s) message.rights) to))
    (reply_counted_more (λ (w : Weight). f w + w message.destination queue) _ message.reply
    (λ s to. fit s (front (reply_is_to s message.reply) (list_any (is_to s) message.rights) to))
    (counted_more f counts message.destination queue small are)))

pub target_counted_more : (f : Weight → ℕ) (counts : Counts) (target : Option ℕ) → TargetFits target
    → AreCounted f counts → AreCounted (λ w. f w + target_weigh w target) (target_more counts target)
target_counted_more f counts None fits are = counted_same f _ counts (λ w. omega arith) are
target_counted_more f counts (Some target) fits are = counted_more f counts kind.SendOnce target fits are

pub place_counted_fewer : (f : Weight → ℕ) (counts : Counts) (what : RightKind) (port : PortInMessage)
    → Fit (is_port port) → AreCounted (λ w. f w + place_weigh w what port) counts
    → AreCounted f (place_fewer counts what port)
place_counted_fewer f counts what in_message.Null fit are = counted_same _ f counts (λ w. omega arith) are
place_counted_fewer f counts what in_message.Dead fit are = counted_same _ f counts (λ w. omega arith) are
place_counted_fewer f counts what (in_message.Live port) fit are =
    counted_fewer f counts what port (fit port (eq-eqb port port refl)) are

pub reply_counted_fewer : (f : Weight → ℕ) (counts : Counts) (reply : Option CarriedRight)
    → Fit (λ s. reply_is_to s reply) → AreCounted (λ w. f w + reply_weigh w reply) counts
    → AreCounted f (reply_fewer counts reply)
reply_counted_fewer f counts None fit are = counted_same _ f counts (λ w. omega arith) are
reply_counted_fewer f counts (Some carried) fit are = place_counted_fewer f counts carried.kind carried.port fit are

pub rights_counted_fewer : (f : Weight → ℕ) (counts : Counts) (rights : List CarriedRight)
    → Fit (λ s. list_any (is_to s) rights) → AreCounted (λ w. f w + weigh (carried_weigh w) rights) counts
    → AreCounted f (rights_fewer counts rights)
rights_counted_fewer f counts [] fit are = counted_same _ f counts (λ w. omega arith) are
rights_counted_fewer f counts (r ∷ rights) fit are =
    rights_counted_fewer f (carried_fewer counts r) rights
    (λ s to. fit s (back (is_to s r) (list_any (is_to s) rights) to))
    (place_counted_fewer (λ (w : Weight). f w + weigh (carried_weigh w) rights) counts r.kind r.port
    (λ s to. fit s (front (is_to s r) (list_any (is_to s) rights) to))
    (counted_same (λ (w : Weight). f w + (carried_weigh w r + weigh (carried_weigh w) rights))
    (λ (w : Weight). (f w + weigh (carried_weigh w) rights) + carried_weigh w r) counts (λ w. omega arith) are))

pub message_counted_fewer : (f : Weight → ℕ) (counts : Counts) (queue : ℕ) (message : Message) → queue < 2 ^ 64
    → Fit (λ s. mentions s message) → AreCounted (λ w. f w + message_weigh w queue message) counts
    → AreCounted f (message_fewer counts queue message)
message_counted_fewer f counts queue message small fit are =
    rights_counted_fewer f _ message.rights
    (λ s to. fit s (back (reply_is_to s message.reply) (list_any (is_to s) message.rights) to))
    (reply_counted_fewer (λ (w : Weight). f w + weigh (carried_weigh w) message.rights) _ message.reply
    (λ s to. fit s (front (reply_is_to s message.reply) (list_any (is_to s) message.rights) to))
    (counted_fewer (λ (w : Weight). (f w + weigh (carried_weigh w) message.rights) + reply_weigh w message.reply) counts
    message.destination queue small
    (counted_same (λ (w : Weight). f w + message_weigh w queue message)
    (λ (w : Weight). ((f w + weigh (carried_weigh w) message.rights) + reply_weigh w message.reply) + w
    message.destination queue) counts (λ w. omega arith) are)))

pub messages_counted_fewer : (f : Weight → ℕ) (counts : Counts) (queue : ℕ) (messages : List Message) → queue < 2 ^ 64
    → Fit (λ s. list_any (mentions s) messages) → AreCounted (λ w. f w + weigh (message_weigh w queue) messages) counts
    → AreCounted f (messages_fewer counts queue messages)
messages_counted_fewer f counts queue [] small fit are = counted_same _ f counts (λ w. omega arith) are
messages_counted_fewer f counts queue (m ∷ messages) small fit are =
    messages_counted_fewer f (message_fewer counts queue m) queue messages small
    (λ s to. fit s (back (mentions s m) (list_any (mentions s) messages) to))
    (message_counted_fewer (λ (w : Weight). f w + weigh (message_weigh w queue) messages) counts queue m small
    (λ s to. fit s (front (mentions s m) (list_any (mentions s) messages) to))
    (counted_same (λ (w : Weight). f w + (message_weigh w queue m + weigh (message_weigh w queue) messages))
    (λ (w : Weight). (f w + weigh (message_weigh w queue) messages) + message_weigh w queue m) counts
    (λ w. omega arith) are))

pub target_counted_fewer : (f : Weight → ℕ) (counts : Counts) (target : Option ℕ) → TargetFits target
    → AreCounted (λ w. f w + target_weigh w target) counts → AreCounted f (target_fewer counts target)
target_counted_fewer f counts None fits are = counted_same _ f counts (λ w. omega arith) are
target_counted_fewer f counts (Some target) fits are = counted_fewer f counts kind.SendOnce target fits are

-- 1 for a receive right to this port, 0 for another right
abbrev pub receives : ℕ → CarriedRight → ℕ
receives inner carried = cond (is_receive_right inner carried) 1 0

abbrev pub received : ℕ → List CarriedRight → ℕ
received inner rights = weigh (receives inner) rights

-- n if it is this queue, else 0
abbrev pub in_queue : ℕ → ℕ → ℕ → ℕ
in_queue queue outer n = cond (queue == outer) n 0

abbrev pub AreCarried : (ℕ → ℕ → ℕ) → Counts → Type 0
AreCarried many carriers = (inner outer : ℕ) → outer < 2 ^ 64 → count_at carriers inner outer ≡ many inner outer

none_in : (b : Bool) → cond {A = ℕ} b 0 0 ≡ 0
none_in true = refl
none_in false = refl

two_in : (b : Bool) (m n : ℕ) → cond b (m + n) 0 ≡ cond b m 0 + cond b n 0
two_in true m n = refl
two_in false m n = refl

both_in : (a b : Bool) → cond {A = ℕ} (a && b) 1 0 ≡ cond b (cond {A = ℕ} a 1 0) 0
both_in true b = refl
both_in false true = refl
both_in false false = refl

one_in : (inner port queue outer : ℕ)
    → cond {A = ℕ} (inner == port && queue == outer) 1 0 ≡ in_queue queue outer (cond {A = ℕ} (port == inner) 1 0)
one_in inner port queue outer =
    both_in (inner == port) (queue == outer) ∙ ap
    (λ (b : Bool). in_queue queue outer (cond {A = ℕ} b 1 0)) (turned inner port)

pub carrier_carried_more : (g : ℕ → ℕ → ℕ) (carriers : Counts) (queue : ℕ) (carried : CarriedRight) → queue < 2 ^ 64
    → AreCarried g carriers → AreCarried
    (λ i o. g i o + in_queue queue o (receives i carried)) (carrier_more carriers queue carried.kind carried.port)
carrier_carried_more g carriers queue carried small are i o other = go carried.kind carried.port
  where
    still : count_at carriers i o ≡ g i o + in_queue queue o 0
    still = omega (arith, are i o other, none_in (queue == o))

    go : (what : RightKind) (port : PortInMessage)
        → count_at (carrier_more carriers queue what port) i o
        ≡ g i o + in_queue queue o (cond (same_kind what kind.Receive && is_port port i) 1 0)
    go kind.Receive in_message.Null = still
    go kind.Receive in_message.Dead = still
    go kind.Receive (in_message.Live port) =
        omega (arith, count_more carriers port queue i o small other, are i o other, one_in i port queue o)
    go kind.Send port = still
    go kind.SendOnce port = still

pub carriers_carried_more : (g : ℕ → ℕ → ℕ) (carriers : Counts) (queue : ℕ) (rights : List CarriedRight)
    → queue < 2 ^ 64 → AreCarried g carriers
    → AreCarried (λ i o. g i o + in_queue queue o (received i rights)) (carriers_more carriers queue rights)
carriers_carried_more g carriers queue [] small are i o other = omega (arith, are i o other, none_in (queue == o))
carriers_carried_more g carriers queue (r ∷ rights) small are i o other =
    omega (
      arith,
      carriers_carried_more
          (λ i o. g i o + in_queue queue o (receives i r)) (carrier_more carriers queue r.kind r.port) queue rights
          small
          (carrier_carried_more g carriers queue r small are) i o other,
      two_in (queue == o) (receives i r) (received i rights),
    )

pub carrier_carried_fewer : (g : ℕ → ℕ → ℕ) (carriers : Counts) (queue : ℕ) (carried : CarriedRight) → queue < 2 ^ 64
    → AreCarried (λ i o. g i o + in_queue queue o (receives i carried)) carriers
    → AreCarried g (carrier_fewer carriers queue carried.kind carried.port)
carrier_carried_fewer g carriers queue carried small are i o other = go carried.kind carried.port (are i o other)
  where
    still : count_at carriers i o ≡ g i o + in_queue queue o 0 → count_at carriers i o ≡ g i o
    still was = omega (arith, was, none_in (queue == o))

    go : (what : RightKind) (port : PortInMessage)
        → count_at carriers i o ≡ g i o + in_queue queue o (cond (same_kind what kind.Receive && is_port port i) 1 0)
        → count_at (carrier_fewer carriers queue what port) i o ≡ g i o
    go kind.Receive in_message.Null was = still was
    go kind.Receive in_message.Dead was = still was
    go kind.Receive (in_message.Live port) was =
        count_fewer carriers port queue i o (g i o) small other
        (was ∙ ap (λ (n : ℕ). g i o + n) (sym (one_in i port queue o)))
    go kind.Send port was = still was
    go kind.SendOnce port was = still was

pub carriers_carried_fewer : (g : ℕ → ℕ → ℕ) (carriers : Counts) (queue : ℕ) (rights : List CarriedRight)
    → queue < 2 ^ 64 → AreCarried (λ i o. g i o + in_queue queue o (received i rights)) carriers
    → AreCarried g (carriers_fewer carriers queue rights)
carriers_carried_fewer g carriers queue [] small are = λ i o other. omega (arith, are i o other, none_in (queue == o))
carriers_carried_fewer g carriers queue (r ∷ rights) small are =
    carriers_carried_fewer g (carrier_fewer carriers queue r.kind r.port) queue rights small
    (carrier_carried_fewer (λ i o. g i o + in_queue queue o (received i rights)) carriers queue r small
    (λ i o other. omega (arith, are i o other, two_in (queue == o) (receives i r) (received i rights))))

-- the number of receive rights to a port in messages
abbrev pub carried_in : ℕ → List Message → ℕ
carried_in inner messages = weigh (λ message. received inner message.rights) messages

pub queue_carried_fewer : (g : ℕ → ℕ → ℕ) (carriers : Counts) (queue : ℕ) (messages : List Message) → queue < 2 ^ 64
    → AreCarried (λ i o. g i o + in_queue queue o (carried_in i messages)) carriers
    → AreCarried g (queue_fewer carriers queue messages)
queue_carried_fewer g carriers queue [] small are = λ i o other. omega (arith, are i o other, none_in (queue == o))
queue_carried_fewer g carriers queue (m ∷ messages) small are =
    queue_carried_fewer g (carriers_fewer carriers queue m.rights) queue messages small
    (carriers_carried_fewer (λ i o. g i o + in_queue queue o (carried_in i messages)) carriers queue m.rights small
    (λ i o other. omega (arith, are i o other, two_in (queue == o) (received i m.rights) (carried_in i messages))))
