use Rattle.spaces.proofs.indexes.NameIndexes.roll_back.Goals as goal

pub returns : goal.returns
returns c =
    record {
      held = c.roll_back.ensures;
      requested = c.roll_back-2.ensures;
      received = c.roll_back-3.ensures;
      counted = c.roll_back-4.ensures;
      noted = c.clear.ensures.items;
    }
