use Rattle.std.proofs.Common.{arith}
use Rattle.kinds.specs.Row.{hours_legal}
use Rattle.kinds.specs.Faults.{fault_fine, fault_bad}
use Rattle.kinds.specs.Rows.{hour_bits-row_bytes, all_legal, one_illegal}
use Rattle.kinds.proofs.laws.row_format_stands.Goals as goal

pub returns : goal.returns
returns c = record {
  written = hour_bits-row_bytes;
  accepted = λ bs len fine. fault_fine 6 bs (hours_legal bs 24) len (all_legal bs 24 fine);
  refused = λ bs k len h three. fault_bad 6 bs (hours_legal bs 24) len (one_illegal bs 24 k h (omega arith));
}
