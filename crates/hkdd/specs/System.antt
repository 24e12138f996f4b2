-- The system as a host: which slots are open and how many calls failed are known of it, and no bytes.
use Rattle.std.specs.Prelude.{ℕ, Bool, true, None}
use Rattle.hk_base.specs.Hosts.{View}
use Rattle.hk_base.specs.Memory.{by_slot}

-- a host that lends every name and tells no bytes
abbrev pub system_view : Bool → Bool → Bool → ℕ → ℕ → View
system_view model cert_in cert_out read_faults write_faults = record {
  told = λ _. None;
  left = λ _. None;
  written = λ _. None;
  lends = λ _ _. true;
  opened = by_slot model cert_in cert_out true;
  read_faults = read_faults;
  write_faults = write_faults;
}
