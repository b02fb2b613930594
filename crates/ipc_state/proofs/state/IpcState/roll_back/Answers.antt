use Rattle.ipc_state.proofs.state.IpcState.roll_back.Goals as goal

pub invariant_of-self : goal.invariant_of-self
invariant_of-self c =
    rw (c.roll_back.ensures, c.roll_back-2.ensures, c.roll_back-3.ensures) (c.self.invariant.0, c.self.invariant.0)
