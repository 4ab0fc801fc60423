-- What a result of decoding says of a frame.
use Rattle.std.specs.Prelude.{◌≡◌, ℕ, None, Result, Ok, Err, IfSome}
use Rattle.vp_wire.specs.declared.frame.Frame.{Frame}
use Rattle.vp_wire.specs.declared.fault.WireFault.{WireFault}
use Rattle.vp_wire.specs.Faults.{wire_place}

-- The result is the frame, unless memory ran out.
abbrev pub IsDecoded : Frame → Result Frame WireFault → Type 0
IsDecoded frame (Ok decoded) = decoded ≡ frame
IsDecoded frame (Err fault) = wire_place fault ≡ None

-- The bytes are refused at this place, unless memory ran out.
abbrev pub IsRefusedAt : ℕ → Result Frame WireFault → Type 0
IsRefusedAt place (Ok decoded) = ⊥
IsRefusedAt place (Err fault) = IfSome (wire_place fault) (λ at. at ≡ place)
