-- A send takes its rights into the call's hand, and queues a lawful message with them, or releases them.
use Rattle.std.specs.Prelude.{◌≡◌, ◌≢◌, ℕ, zero, suc, ◌+◌, Bool, true, false, ◌&&◌, ◌==◌, List, [], ◌∷◌, ◌++◌, length, drop, map, flat_map, replicate, Option, None, Some, option_map, Ok, IfOk, IfSome, if◌then◌else◌, refl}
use Rattle.std.proofs.Common.{sym, ◌∙◌, ap, subst, arith, append_assoc}
use Rattle.std.proofs.lemmas.List.{append-nil, map-append}
use Rattle.std.specs.FinMap as finmap
use Rattle.codes.specs.declared.kern_return.KernReturn.TheVariants.{SendInvalidDest, SendInvalidReply, SendInvalidHeader}
use Rattle.codes.specs.declared.name.TheConstants.{MACH_PORT_NULL}
use Rattle.ipc_model.specs.declared.message.CarriedRight.{CarriedRight}
use Rattle.ipc_model.specs.declared.message.PortInMessage.{PortInMessage}
use Rattle.ipc_model.specs.declared.message.PortInMessage.TheVariants as in_message
use Rattle.ipc_model.specs.declared.message.RightKind.{RightKind}
use Rattle.ipc_model.specs.declared.message.RightKind.TheVariants as kind
use Rattle.ipc_model.specs.rights.CopyIn.{Taken, copy_in}
use Rattle.ipc_model.specs.rights.Dispositions.{Disposition, MoveSend, MoveSendOnce, CopySend, MakeSend, MakeSendOnce, disposition_of, received_kind}
use Rattle.ipc_laws.specs.Hands.{Hand, MidCall, empty_hand, mid_hand}
use Rattle.ipc_model.specs.messages.Items.{Item, names_of_item, words_of, is_port_item, as_stored}
use Rattle.ipc_model.specs.state.Lawful.{LawfulReply, kinds_of_item}
use Rattle.ipc_laws.specs.ListLaws.{some_same}
use Rattle.ipc_laws.specs.MapSums.{weigh, weigh-append}
use Rattle.ipc_laws.specs.PortItems.{by_type, kinds_of_type, stored_kinds, no_kinds}
use Rattle.ipc_model.specs.messages.Sending as sending
use Rattle.ipc_model.specs.messages.Sending.{TakenRights, TakenDestination, destination_at, TakenHeader, TakenReply, passed, take_right, take_rights, take_item, take_items, take_destination, take_reply, take_reply_first, take_destination_first, take_header, live_port}
use Rattle.ipc_model.specs.state.Ipc.{Ipc, Names, is_null_or_dead}
use Rattle.ipc_laws.specs.Takes.{Quiet, quiet_none, quiet_both, taken_mid, kind_taken, with_right}
use Rattle.ipc_model.specs.calls.Tests.{and_then, or_refused}
use Rattle.ipc_laws.specs.UntouchedMessages.{and_then_if, if_if}
use Rattle.ipc_laws.specs.Weights.{Weight, carried_weigh, reply_weigh, receive_of, any_of}

-- The rights of a body.

abbrev pub rights_hand : Hand → List CarriedRight → Hand
rights_hand hand rights w = hand w + weigh (carried_weigh w) rights

abbrev pub kinds : List CarriedRight → List RightKind
kinds rights = map (λ (r : CarriedRight). r.kind) rights

-- rights that were taken are in hand, and have these kinds
pub record MidRights (space : ℕ) (hand : Hand) (wanted : List RightKind) (taken : TakenRights) : Type 0 where
  pub mid : MidCall taken.state (rights_hand hand taken.rights)
  pub quiet : Quiet taken.notices
  pub names : Names
  pub there : finmap.get taken.state.spaces space ≡ Some names
  pub kinds : kinds taken.rights ≡ wanted

kinds_more : (rights : List CarriedRight) (right : CarriedRight) (wanted : List RightKind) (what : RightKind)
    → kinds rights ≡ wanted → right.kind ≡ what → kinds (rights ++ right ∷ []) ≡ wanted ++ what ∷ []
kinds_more rights right wanted what are is =
    map-append (λ (r : CarriedRight). r.kind) rights (right ∷ []) ∙ (λ i. are i ++ is i ∷ [])

passed_zero : (w : Weight) (what : RightKind) (name : ℕ)
    → carried_weigh w (record { kind = what; port = passed name }) ≡ 0
passed_zero w what name =
    elim (name == MACH_PORT_NULL) as (λ (b : Bool). carried_weigh w
    (record { kind = what; port = if b then in_message.Null else in_message.Dead }) ≡ 0)
    [ true ↦ refl | false ↦ refl ]

null_taken : (space : ℕ) (hand : Hand) (wanted : List RightKind) (name : ℕ) (what : RightKind) (taken : TakenRights)
    → MidRights space hand wanted taken
    → MidRights space hand (wanted ++ what ∷ [])
    (record taken { rights = taken.rights ++ (record { kind = what; port = passed name }) ∷ [] })
null_taken space hand wanted name what taken mid =
    let right : CarriedRight = record { kind = what; port = passed name } in
    let weighs : (w : Weight) → rights_hand hand (taken.rights ++ right ∷ []) w ≡ rights_hand hand taken.rights w =
    λ (w : Weight). omega (arith, weigh-append (carried_weigh w) taken.rights (right ∷ []), passed_zero w what name) in
    record {
      mid =
          mid_hand taken.state (rights_hand hand taken.rights) (rights_hand hand (taken.rights ++ right ∷ [])) mid.mid
          (λ (q : ℕ). weighs (receive_of q)) (λ (q : ℕ) (dead : _). omega (arith, weighs (any_of q)));
      quiet = mid.quiet;
      names = mid.names;
      there = mid.there;
      kinds = kinds_more taken.rights right wanted what mid.kinds refl;
    }

next_taken : (space name : ℕ) (hand : Hand) (wanted : List RightKind) (disposition : Disposition) (taken : TakenRights)
    (next : Taken) → MidRights space hand wanted taken → copy_in taken.state space name disposition ≡ Some next
    → MidRights space hand (wanted ++ received_kind disposition ∷ [])
    (record {
      rights = taken.rights ++ next.right ∷ [];
      state = next.state;
      notices = taken.notices ++ next.notices;
    })
next_taken space name hand wanted disposition taken next mid is =
    let took =
    taken_mid taken.state (rights_hand hand taken.rights) space name mid.names disposition next mid.mid mid.there is
    in
    let weighs : (w : Weight) → rights_hand hand (taken.rights ++ next.right ∷ []) w
    ≡ with_right (rights_hand hand taken.rights) next.right w =
    λ (w : Weight). omega (arith, weigh-append (carried_weigh w) taken.rights (next.right ∷ [])) in
    record {
      mid =
          mid_hand next.state (with_right (rights_hand hand taken.rights) next.right)
          (rights_hand hand (taken.rights ++ next.right ∷ [])) took.mid (λ (q : ℕ). weighs (receive_of q))
          (λ (q : ℕ) (dead : _). omega (arith, weighs (any_of q)));
      quiet = quiet_both taken.notices next.notices mid.quiet took.quiet;
      names = took.names;
      there = took.there;
      kinds =
          kinds_more taken.rights next.right wanted (received_kind disposition) mid.kinds
          (kind_taken taken.state space name disposition next is);
    }

right_mid : (space name : ℕ) (hand : Hand) (wanted : List RightKind) (disposition : Disposition) (taken : TakenRights)
    → MidRights space hand wanted taken
    → IfSome (take_right space name disposition taken) (MidRights space hand (wanted ++ received_kind disposition ∷ []))
right_mid space name hand wanted disposition taken mid =
    elim (is_null_or_dead name) as (λ (b : Bool). IfSome
    (if b then Some (record taken {
      rights = taken.rights
          ++ (record { kind = received_kind disposition; port = passed name }) ∷ [];
    })
    else option_map (λ (next : Taken).
    record {
      rights = taken.rights ++ next.right ∷ [];
      state = next.state;
      notices = taken.notices ++ next.notices;
    }) (copy_in taken.state space name disposition))
    (MidRights space hand (wanted ++ received_kind disposition ∷ []))) [
      | true ↦ null_taken space hand wanted name (received_kind disposition) taken mid
      | false ↦ elim (copy_in taken.state space name disposition)
          as (λ (o : Option Taken). copy_in taken.state space name disposition ≡ o
          → IfSome (option_map (λ (next : Taken).
          record {
            rights = taken.rights ++ next.right ∷ [];
            state = next.state;
            notices = taken.notices ++ next.notices;
          }) o)
          (MidRights space hand (wanted ++ received_kind disposition ∷ []))) [
            | None ↦ λ (_ : _). tt
            | Some next ↦ λ (is : _). next_taken space name hand wanted disposition taken next mid is
          ] refl
    ]

more_kinds : (space : ℕ) (hand : Hand) (one other : List RightKind) → one ≡ other → (o : Option TakenRights)
    → IfSome o (MidRights space hand one) → IfSome o (MidRights space hand other)
more_kinds space hand one other same o mid = subst (λ (l : List RightKind). IfSome o (MidRights space hand l)) same mid

rights_mid : (space : ℕ) (hand : Hand) (wanted : List RightKind) (disposition : Disposition) (names : List ℕ)
    (taken : TakenRights) → MidRights space hand wanted taken
    → IfSome (take_rights space disposition names taken)
    (MidRights space hand (wanted ++ replicate (length names) (received_kind disposition)))
rights_mid space hand wanted disposition [] taken mid =
    more_kinds space hand wanted (wanted ++ []) (sym (append-nil wanted)) (Some taken) mid
rights_mid space hand wanted disposition (name ∷ names) taken mid =
    let what : RightKind = received_kind disposition in
    elim (take_right space name disposition taken)
    as (λ (o : Option TakenRights). IfSome o (MidRights space hand (wanted ++ what ∷ []))
    → IfSome (elim o as (λ _. Option TakenRights)
    [ None ↦ None | Some next ↦ take_rights space disposition names next ])
    (MidRights space hand (wanted ++ what ∷ replicate (length names) what))) [
      | None ↦ λ (_ : _). tt
      | Some next ↦ λ (here : _).
          more_kinds space hand ((wanted ++ what ∷ []) ++ replicate (length names) what)
          (wanted ++ what ∷ replicate (length names) what)
          (append_assoc wanted (what ∷ []) (replicate (length names) what))
          (take_rights space disposition names next)
          (rights_mid space hand (wanted ++ what ∷ []) disposition names next here)
    ] (right_mid space name hand wanted disposition taken mid)

length-words : (n : ℕ) (bytes : List ℕ) → length (words_of n bytes) ≡ n
length-words zero bytes = refl
length-words (suc n) bytes = omega (arith, length-words n (drop 4 bytes))

pub names_long : (item : Item) → is_port_item item ≡ true → length (names_of_item item) ≡ item.number
names_long item port =
    ap (λ (b : Bool). length (if b then words_of item.number item.content else [])) port
    ∙ length-words item.number item.content

item_mid : (space : ℕ) (hand : Hand) (wanted : List RightKind) (item : Item) (taken : TakenRights)
    → MidRights space hand wanted taken
    → IfSome (take_item space item (disposition_of item.type_name) taken)
    (MidRights space hand (wanted ++ kinds_of_item (as_stored item)))
item_mid space hand wanted item taken mid =
    elim (disposition_of item.type_name)
    as (λ (o : Option Disposition). disposition_of item.type_name ≡ o
    → IfSome (take_item space item o taken) (MidRights space hand (wanted ++ kinds_of_item (as_stored item)))) [
      | None ↦ λ (none : _). more_kinds space hand wanted (wanted ++ kinds_of_item (as_stored item))
          (sym (ap (λ (l : List RightKind). wanted ++ l) (no_kinds item none) ∙ append-nil wanted)) (Some taken) mid
      | Some by ↦ λ (known : _).
          more_kinds space hand (wanted ++ replicate (length (names_of_item item)) (received_kind by))
          (wanted ++ kinds_of_item (as_stored item))
          (ap (λ (l : List RightKind). wanted ++ l)
          (ap (λ (n : ℕ). replicate n (received_kind by))
          (names_long item ((kinds_of_type item.type_name).some by known).0)
          ∙ sym (stored_kinds item by known)))
          (take_rights space by (names_of_item item) taken)
          (rights_mid space hand wanted by (names_of_item item) taken mid)
    ] refl

pub items_mid : (space : ℕ) (hand : Hand) (wanted : List RightKind) (items : List Item) (taken : TakenRights)
    → MidRights space hand wanted taken
    → IfSome (take_items space items taken)
    (MidRights space hand (wanted ++ flat_map kinds_of_item (map as_stored items)))
items_mid space hand wanted [] taken mid =
    more_kinds space hand wanted (wanted ++ []) (sym (append-nil wanted)) (Some taken) mid
items_mid space hand wanted (item ∷ items) taken mid =
    let own : List RightKind = kinds_of_item (as_stored item) in
    let others : List RightKind = flat_map kinds_of_item (map as_stored items) in
    elim (take_item space item (disposition_of item.type_name) taken)
    as (λ (o : Option TakenRights). IfSome o (MidRights space hand (wanted ++ own))
    → IfSome (elim o as (λ _. Option TakenRights) [ None ↦ None | Some next ↦ take_items space items next ])
    (MidRights space hand (wanted ++ (own ++ others)))) [
      | None ↦ λ (_ : _). tt
      | Some next ↦ λ (here : _).
          more_kinds space hand ((wanted ++ own) ++ others) (wanted ++ (own ++ others)) (append_assoc wanted own others)
          (take_items space items next) (items_mid space hand (wanted ++ own) items next here)
    ] (item_mid space hand wanted item taken mid)

-- The rights of a header.

record MidDestination (space : ℕ) (hand : Hand) (destination : TakenDestination) : Type 0 where
  mid : MidCall destination.taken.state (λ w. hand w + w destination.taken.right.kind destination.port)
  quiet : Quiet destination.taken.notices
  names : Names
  there : finmap.get destination.taken.state.spaces space ≡ Some names
  sends : destination.taken.right.kind ≢ kind.Receive

record MidReply (space : ℕ) (hand : Hand) (taken : TakenReply) : Type 0 where
  mid : MidCall taken.state (λ w. hand w + reply_weigh w taken.reply)
  quiet : Quiet taken.notices
  names : Names
  there : finmap.get taken.state.spaces space ≡ Some names
  sends : LawfulReply taken.reply

pub record MidHeader (space : ℕ) (header : TakenHeader) : Type 0 where
  pub mid : MidCall header.state (λ w. w header.kind header.port + reply_weigh w header.reply)
  pub quiet : Quiet header.notices
  pub names : Names
  pub there : finmap.get header.state.spaces space ≡ Some names
  pub sends : header.kind ≢ kind.Receive
  pub replies : LawfulReply header.reply

live_at : (port : PortInMessage) (serial : ℕ) → live_port port ≡ Some serial → port ≡ in_message.Live serial
live_at in_message.Null serial is = absurd (cc is)
live_at in_message.Dead serial is = absurd (cc is)
live_at (in_message.Live other) serial is = ap (λ k. in_message.Live k) (some_same other serial is)

destination_mid : (space name : ℕ) (state : Ipc) (hand : Hand) (names : Names) (disposition : Disposition)
    → received_kind disposition ≢ kind.Receive → MidCall state hand → finmap.get state.spaces space ≡ Some names
    → IfOk (take_destination state space name disposition) (MidDestination space hand)
destination_mid space name state hand names disposition sends mid there =
    elim (copy_in state space name disposition) as (λ (o : Option Taken). copy_in state space name disposition ≡ o
    → IfOk (and_then (or_refused SendInvalidDest o)
    (λ (taken : Taken). and_then (or_refused SendInvalidDest (live_port taken.right.port))
    (λ (serial : ℕ). Ok (destination_at taken serial)))) (MidDestination space hand)) [
      | None ↦ λ (_ : _). tt
      | Some taken ↦ λ (is : _).
          let took = taken_mid state hand space name names disposition taken mid there is in
          elim (live_port taken.right.port)
          as (λ (o : Option ℕ). live_port taken.right.port ≡ o
          → IfOk (and_then (or_refused SendInvalidDest o) (λ (serial : ℕ). Ok (destination_at taken serial)))
          (MidDestination space hand)) [
            | None ↦ λ (_ : _). tt
            | Some serial ↦ λ (live : _).
                let weighs : (w : Weight) → with_right hand taken.right w ≡ hand w + w taken.right.kind serial =
                λ (w : Weight). ap (λ (p : PortInMessage). hand w + carried_weigh w
                (record { kind = taken.right.kind; port = p })) (live_at taken.right.port serial live) in
                record {
                  mid =
                      mid_hand taken.state (with_right hand taken.right)
                      (λ w. hand w + w taken.right.kind serial) took.mid (λ (q : ℕ). sym (weighs (receive_of q)))
                      (λ (q : ℕ) (dead : _). omega (arith, weighs (any_of q)));
                  quiet = took.quiet;
                  names = took.names;
                  there = took.there;
                  sends = λ (e : _). sends (sym (kind_taken state space name disposition taken is) ∙ e);
                }
          ] refl
    ] refl

abbrev pub RepliesBy : Option Disposition → Type 0
RepliesBy None = Unit {0}
RepliesBy (Some disposition) = received_kind disposition ≢ kind.Receive

reply_mid : (space name : ℕ) (state : Ipc) (hand : Hand) (names : Names) (reply : Option Disposition)
    → RepliesBy reply → MidCall state hand → finmap.get state.spaces space ≡ Some names
    → IfOk (take_reply state space name reply) (MidReply space hand)
reply_mid space name state hand names None by mid there = record {
  mid = mid_hand state hand (λ w. hand w + 0) mid (λ (q : ℕ). omega arith) (λ (q : ℕ) (dead : _). omega arith);
  quiet = quiet_none;
  names = names;
  there = there;
  sends = tt;
}
reply_mid space name state hand names (Some disposition) by mid there =
    let what : RightKind = received_kind disposition in
    elim (is_null_or_dead name) as (λ (b : Bool). IfOk
    (if b then Ok (record {
      reply = Some (record { kind = what; port = passed name });
      state = state;
      notices = [];
    })
    else and_then (or_refused SendInvalidReply (copy_in state space name disposition))
    (λ (taken : Taken). Ok (record { reply = Some taken.right; state = taken.state; notices = taken.notices })))
    (MidReply space hand)) [
      | true ↦ record {
        mid =
            mid_hand state hand (λ w. hand w + carried_weigh w (record { kind = what; port = passed name })) mid
            (λ (q : ℕ). omega (arith, passed_zero (receive_of q) what name))
            (λ (q : ℕ) (dead : _). omega (arith, passed_zero (any_of q) what name));
        quiet = quiet_none;
        names = names;
        there = there;
        sends = by;
      }
      | false ↦ elim (copy_in state space name disposition)
          as (λ (o : Option Taken). copy_in state space name disposition ≡ o
          → IfOk (and_then (or_refused SendInvalidReply o)
          (λ (taken : Taken). Ok (record {
            reply = Some taken.right;
            state = taken.state;
            notices = taken.notices;
          }))) (MidReply space hand)) [
            | None ↦ λ (_ : _). tt
            | Some taken ↦ λ (is : _).
                let took = taken_mid state hand space name names disposition taken mid there is in
                record {
                  mid = took.mid;
                  quiet = took.quiet;
                  names = took.names;
                  there = took.there;
                  sends = λ (e : _). by (sym (kind_taken state space name disposition taken is) ∙ e);
                }
          ] refl
    ]

header_of_reply : (space remote local : ℕ) (state : Ipc) (names : Names) (destination : Disposition)
    (reply : Option Disposition) → received_kind destination ≢ kind.Receive → RepliesBy reply → MidCall state empty_hand
    → finmap.get state.spaces space ≡ Some names
    → IfOk (take_reply_first state space remote destination local reply) (MidHeader space)
header_of_reply space remote local state names destination reply sends by mid there =
    and_then_if (MidReply space empty_hand) (MidHeader space) (take_reply state space local reply) _
    (reply_mid space local state empty_hand names reply by mid there) (λ (first : TakenReply) (one : _).
    and_then_if (MidDestination space (λ w. empty_hand w + reply_weigh w first.reply)) (MidHeader space)
    (take_destination first.state space remote destination) _
    (destination_mid space remote first.state
    (λ w. empty_hand w + reply_weigh w first.reply) one.names destination sends one.mid one.there)
    (λ (second : TakenDestination) (two : _). record {
      mid =
          mid_hand second.taken.state _ (λ w. w second.taken.right.kind second.port + reply_weigh w first.reply) two.mid
          (λ (q : ℕ). omega arith) (λ (q : ℕ) (dead : _). omega arith);
      quiet = quiet_both first.notices second.taken.notices one.quiet two.quiet;
      names = two.names;
      there = two.there;
      sends = two.sends;
      replies = one.sends;
    }))

header_of_destination : (space remote local : ℕ) (state : Ipc) (names : Names) (destination : Disposition)
    (reply : Option Disposition) → received_kind destination ≢ kind.Receive → RepliesBy reply → MidCall state empty_hand
    → finmap.get state.spaces space ≡ Some names
    → IfOk (take_destination_first state space remote destination local reply) (MidHeader space)
header_of_destination space remote local state names destination reply sends by mid there =
    and_then_if (MidDestination space empty_hand) (MidHeader space) (take_destination state space remote destination) _
    (destination_mid space remote state empty_hand names destination sends mid there)
    (λ (first : TakenDestination) (one : _).
    and_then_if (MidReply space (λ w. empty_hand w + w first.taken.right.kind first.port)) (MidHeader space)
    (take_reply first.taken.state space local reply) _
    (reply_mid space local first.taken.state
    (λ w. empty_hand w + w first.taken.right.kind first.port) one.names reply by one.mid one.there)
    (λ (second : TakenReply) (two : _). record {
      mid =
          mid_hand second.state _ (λ w. w first.taken.right.kind first.port + reply_weigh w second.reply) two.mid
          (λ (q : ℕ). omega arith) (λ (q : ℕ) (dead : _). omega arith);
      quiet = quiet_both first.taken.notices second.notices one.quiet two.quiet;
      names = two.names;
      there = two.there;
      sends = one.sends;
      replies = two.sends;
    }))

pub header_mid : (space remote local : ℕ) (state : Ipc) (names : Names) (destination : Disposition)
    (reply : Option Disposition) → received_kind destination ≢ kind.Receive → RepliesBy reply → MidCall state empty_hand
    → finmap.get state.spaces space ≡ Some names
    → IfOk (take_header state space remote destination local reply) (MidHeader space)
header_mid space remote local state names destination reply sends by mid there =
    if_if (MidHeader space) (sending.reply_goes_first destination reply) _ _
    (header_of_reply space remote local state names destination reply sends by mid there)
    (header_of_destination space remote local state names destination reply sends by mid there)

-- dispositions of a header

SendsBy : ℕ → Type 0
SendsBy n =
    (n == 16) ≡ false → (disposition : Disposition) → disposition_of n ≡ Some disposition
    → received_kind disposition ≢ kind.Receive

sends_one : (n : ℕ) (is : Disposition) → received_kind is ≢ kind.Receive → disposition_of n ≡ Some is → SendsBy n
unfolding SendsBy
sends_one n is sends known apart disposition e same =
    sends (ap received_kind (some_same is disposition (sym known ∙ e)) ∙ same)

sends_by : (n : ℕ) → SendsBy n
unfolding SendsBy
sends_by =
    by_type SendsBy (λ (apart : _) (_ : Disposition) (_ : _) (_ : _). cc apart)
    (sends_one 17 MoveSend (λ (e : _). cc e) refl) (sends_one 18 MoveSendOnce (λ (e : _). cc e) refl)
    (sends_one 19 CopySend (λ (e : _). cc e) refl)
    (sends_one 20 MakeSend (λ (e : _). cc e) refl) (sends_one 21 MakeSendOnce (λ (e : _). cc e) refl)
    (λ (n : ℕ) (none : _) (_ : _) (_ : _) (disposition : Disposition) (e : _) (_ : _). cc (sym none ∙ e))

pub header_sends : (n : ℕ) → IfSome (sending.header_disposition n)
    (λ (disposition : Disposition). received_kind disposition ≢ kind.Receive)
unfolding SendsBy
header_sends n =
    elim (n == 16) as (λ (b : Bool). (n == 16) ≡ b
    → IfSome (if b then None else disposition_of n)
    (λ (disposition : Disposition). received_kind disposition ≢ kind.Receive)) [
      | true ↦ λ (_ : _). tt
      | false ↦ λ (apart : _). elim (disposition_of n)
          as (λ (o : Option Disposition). disposition_of n ≡ o
          → IfSome o (λ (disposition : Disposition). received_kind disposition ≢ kind.Receive)) [
            | None ↦ λ (_ : _). tt
            | Some disposition ↦ λ (known : _). sends_by n apart disposition known
          ] refl
    ] refl

pub reply_sends : (n name : ℕ) → IfOk (sending.reply_disposition n name) RepliesBy
reply_sends n name =
    if_if RepliesBy (n == 0 && name == MACH_PORT_NULL) _ _ tt
    (elim (sending.header_disposition n)
    as (λ (o : Option Disposition). IfSome o
    (λ (disposition : Disposition). received_kind disposition ≢ kind.Receive)
    → IfOk (and_then (or_refused SendInvalidHeader o) (λ (disposition : Disposition). Ok (Some disposition)))
    RepliesBy) [
      | None ↦ λ (_ : _). tt
      | Some disposition ↦ λ (sends : _). sends
    ] (header_sends n))
