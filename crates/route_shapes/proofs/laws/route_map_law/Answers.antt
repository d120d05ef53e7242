use Rattle.route_shapes.proofs.ShapeLaw.{shape_mapped-route_shape}
use Rattle.route_shapes.proofs.laws.route_map_law.Goals as goal

pub returns : goal.returns
returns c policies entries tracked p external r all =
    shape_mapped-route_shape policies entries tracked p external r all
