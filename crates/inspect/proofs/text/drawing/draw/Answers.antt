use Rattle.inspect.proofs.text.Drawn.{draw_from_rows}
use Rattle.inspect.proofs.text.drawing.draw.Goals as goal

pub returns : goal.returns
returns c =
    λ state is. draw_from_rows c.push_drawing.result c.push_drawing.new.out.items c.args.out.now.items
    c.args.snapshot.now state is c.push_drawing.ensures
