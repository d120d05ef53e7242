-- What a file that keeps its limits keeps.
use Rattle.std.proofs.Common.{◌≡◌, true, ◌&&◌}
use Rattle.std.proofs.lemmas.Bool.{and_from, and_parts}
use Rattle.std.specs.List.{list_all}
use Rattle.ios_ast.specs.declared.file.File.{File}
use Rattle.ios_ast.specs.Limits.{has_address_lines_apart, has_cost_in_range, has_few_interfaces, has_few_neighbours}
use Rattle.ios_ast.specs.Limits.{have_lengths_in_order, keeps_limits, names_neighbours_once}

pub record KeepsLimits (file : File) : Type 0 where
  pub interfaces : has_few_interfaces file ≡ true
  pub neighbours : has_few_neighbours file ≡ true
  pub costs : list_all has_cost_in_range file.interfaces ≡ true
  pub lengths : have_lengths_in_order file.policies.prefix_lists ≡ true
  pub once : names_neighbours_once file ≡ true
  pub lines : has_address_lines_apart file ≡ true

-- the limits one by one
pub limits_of : (file : File) → keeps_limits file ≡ true → KeepsLimits file
limits_of file keeps =
    let costs = list_all has_cost_in_range file.interfaces in
    let lengths = have_lengths_in_order file.policies.prefix_lists in
    let apart = names_neighbours_once file && has_address_lines_apart file in
    let few = and_parts (has_few_interfaces file) (has_few_neighbours file && (costs && (lengths && apart))) keeps in
    let neighbours = and_parts (has_few_neighbours file) (costs && (lengths && apart)) few.1 in
    let range = and_parts costs (lengths && apart) neighbours.1 in
    let order = and_parts lengths apart range.1 in
    let two = and_parts (names_neighbours_once file) (has_address_lines_apart file) order.1 in
    record {
      interfaces = few.0;
      neighbours = neighbours.0;
      costs = range.0;
      lengths = order.0;
      once = two.0;
      lines = two.1;
    }

-- all of them together
pub limits_from : (file : File) → KeepsLimits file → keeps_limits file ≡ true
limits_from file kept =
    let costs = list_all has_cost_in_range file.interfaces in
    let lengths = have_lengths_in_order file.policies.prefix_lists in
    let apart = names_neighbours_once file && has_address_lines_apart file in
    and_from (has_few_interfaces file) (has_few_neighbours file && (costs && (lengths && apart))) kept.interfaces
    (and_from (has_few_neighbours file) (costs && (lengths && apart)) kept.neighbours
    (and_from costs (lengths && apart) kept.costs (and_from lengths apart kept.lengths
    (and_from (names_neighbours_once file) (has_address_lines_apart file) kept.once kept.lines))))
