-- Document 01's caps, each of one list, and the order of two records of caps. Assumes nothing.
use Rattle.std.specs.Prelude.{◌≤◌}
use Rattle.std.proofs.Common.{arith}
use Rattle.hatch_format.specs.declared.Caps.{Caps}

abbrev pub document_caps : Caps
document_caps =
    record {
      colors = 16;
      paths = 10_000;
      vertices = 100_000;
      edges = 100_000;
      knots = 100_000;
      control_points = 100_000;
      fit_points = 100_000;
      boundary_handles = 1_024;
      pattern_lines = 4_096;
      dashes = 64;
      seed_points = 1_024;
    }

-- the first record of caps is nowhere above the second
pub record NowhereAbove (lower upper : Caps) : Type 0 where
  pub colors : lower.colors ≤ upper.colors
  pub paths : lower.paths ≤ upper.paths
  pub vertices : lower.vertices ≤ upper.vertices
  pub edges : lower.edges ≤ upper.edges
  pub knots : lower.knots ≤ upper.knots
  pub control_points : lower.control_points ≤ upper.control_points
  pub fit_points : lower.fit_points ≤ upper.fit_points
  pub boundary_handles : lower.boundary_handles ≤ upper.boundary_handles
  pub pattern_lines : lower.pattern_lines ≤ upper.pattern_lines
  pub dashes : lower.dashes ≤ upper.dashes
  pub seed_points : lower.seed_points ≤ upper.seed_points

pub above_itself : (caps : Caps) → NowhereAbove caps caps
above_itself caps =
    record {
      colors = omega arith;
      paths = omega arith;
      vertices = omega arith;
      edges = omega arith;
      knots = omega arith;
      control_points = omega arith;
      fit_points = omega arith;
      boundary_handles = omega arith;
      pattern_lines = omega arith;
      dashes = omega arith;
      seed_points = omega arith;
    }
