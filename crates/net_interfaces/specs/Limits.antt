-- What every file that was read keeps.
pub use Rattle.ios_ast.specs.Limits.{each_pair, has_address_lines_apart, has_cost_in_range, has_few_interfaces}
pub use Rattle.ios_ast.specs.Limits.{has_few_neighbours, has_lengths_in_order, have_lengths_in_order}
pub use Rattle.ios_ast.specs.Limits.{have_two_addresses, have_two_lines, keeps_limits, names_neighbours_once}
