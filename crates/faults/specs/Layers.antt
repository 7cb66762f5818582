-- What a layer adds to the fault of the layer below, and that nothing of it is lost.
use Rattle.std.specs.Prelude.{◌≡◌, ℕ, Ok, Err, Result}
use Rattle.hands.specs.Refusal.{carry_number}
use Rattle.hands.specs.declared.fault.CarryFault.{CarryFault}
use Rattle.faults.specs.Numbers.{file_number}
use Rattle.faults.specs.declared.table.CallName.{CallName}
use Rattle.faults.specs.declared.table.TableFault.{TableFault}
use Rattle.faults.specs.declared.table.TableRefusal.{TableRefusal}
use Rattle.faults.specs.declared.table.TableRefusal.TheVariants.{Carry}
use Rattle.faults.specs.declared.file.FileFault.{FileFault}
use Rattle.faults.specs.declared.file.FileRefusal.TheVariants.{Table}

-- the table names the call
abbrev pub in_call : {T : Type 0} → CallName → Result T TableRefusal → Result T TableFault
in_call call (Ok x) = Ok x
in_call call (Err refusal) = Err (record { call = call; refusal = refusal })

-- the file names the place
abbrev pub at_place : {T : Type 0} → ℕ → Result T TableFault → Result T FileFault
at_place place (Ok x) = Ok x
at_place place (Err fault) = Err (record { refusal = Table fault; place = place })

-- a refusal of carry as the file tells it
abbrev pub carried_up : ℕ → CallName → CarryFault → FileFault
carried_up place call fault = record { refusal = Table (record { call = call; refusal = Carry fault }); place = place }

pub record NothingLost (T : Type 0) : Type 0 where
  -- what a layer made of a fault shows the fault, and what the layer added
  pub call_kept : (c d : CallName) (a b : TableRefusal) → in_call {T = T} c (Err a) ≡ in_call d (Err b) → (c ≡ d) × (a ≡ b)
  pub place_kept : (p q : ℕ) (a b : TableFault) → at_place {T = T} p (Err a) ≡ at_place q (Err b) → (p ≡ q) × (a ≡ b)
  -- so carry's fault comes up whole through both layers, under its own number
  pub comes_up : (place : ℕ) (call : CallName) (fault : CarryFault) → at_place {T = T} place (in_call call (Err (Carry fault))) ≡ Err (carried_up place call fault)
  pub comes_up_whole : (p q : ℕ) (c d : CallName) (a b : CarryFault) → carried_up p c a ≡ carried_up q d b → (p ≡ q) × (c ≡ d) × (a ≡ b)
  pub same_number : (place : ℕ) (call : CallName) (fault : CarryFault) → file_number (carried_up place call fault).refusal ≡ carry_number fault.refusal
