-- An end before anything was written.
use Rattle.disk.specs.Slots.{Slots}
use Rattle.std.proofs.Common.{◌≡◌, ◌⊎◌, ℕ, List, [], Option, refl, sym, subst, inl, inr}
use Rattle.std.proofs.KnownBytes.{Appends-nil, Keeps-refl}
use Rattle.socket_server.specs.Reporting.{HasReported, HasReportedOf, ready_line}
use Rattle.store_fault.specs.declared.fault.StoreFault.TheVariants.{NoMemory}
use Rattle.server.specs.declared.ending.SocketEnd.{SocketEnd}
use Rattle.server.specs.declared.ending.SocketEnd.TheVariants.{InUse, Socket, Store, Unlockable}

pub nothing_reported : (known : Option (List ℕ)) (end : SocketEnd) → (end ≡ Socket) ⊎ (end ≡ Store NoMemory)
    → HasReported known known end
nothing_reported known end (inl is) =
    subst (λ (e : SocketEnd). HasReported known known e) (sym is) ([], ready_line, refl, Appends-nil known)
nothing_reported known end (inr is) =
    subst (λ (e : SocketEnd). HasReported known known e) (sym is) (inr (refl, Keeps-refl known))

pub reported_of : (honest : Type 0) (slots : Slots) (old new : Option (List ℕ)) (end : SocketEnd)
    → HasReported old new end → HasReportedOf honest slots old new end
reported_of honest slots old new Socket reported = reported
reported_of honest slots old new InUse reported = reported
reported_of honest slots old new Unlockable reported = reported
reported_of honest slots old new (Store fault) reported = inl reported
