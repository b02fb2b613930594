use Rattle.system.proofs.system.System.step.Goals as goal

pub returns-in-Take-clause-steps : goal.returns-in-Take-clause-steps
returns-in-Take-clause-steps g c = rw c.in-Take.is (assumption c)

pub returns-in-Append-clause-steps : goal.returns-in-Append-clause-steps
returns-in-Append-clause-steps g c = rw c.in-Append.is (assumption c)

pub returns-in-Durable-clause-steps : goal.returns-in-Durable-clause-steps
returns-in-Durable-clause-steps g c = rw c.in-Durable.is (assumption c)
