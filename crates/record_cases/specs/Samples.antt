-- Samples at the edges of the file format.
use Rattle.std.specs.Prelude.{◌≡◌, [], ◌∷◌, Ok, Err, codes}
use Rattle.hands.specs.declared.fault.CarryRefusal.TheVariants.{CannotGive}
use Rattle.faults.specs.Layers.{carried_up}
use Rattle.faults.specs.declared.file.FileRefusal.TheVariants.{BufferTooShort}
use Rattle.faults.specs.declared.table.CallName.TheVariants.{Buy}
use Rattle.entries.specs.Entry.{bills, pays_out}
use Rattle.entries.specs.Reading.{read_at}
use Rattle.entries.specs.Writing.{writing, written}
use Rattle.listing.specs.Lines.{refused_line}
use Rattle.listing.specs.Listing.{listing_of}

pub record Samples : Type 0 where
  -- two records, and what is printed of them
  pub two_records : listing_of (1 ∷ (1 ∷ (3 ∷ (3 ∷ (1 ∷ (1 ∷ (0 ∷ (8 ∷ [])))))))) ≡ codes "0 open 1 3\n3 buy 1 1 0 8\n"
  pub no_record : listing_of [] ≡ []
  -- a cut body and an unknown kind after a record
  pub cut_body : listing_of (5 ∷ (2 ∷ (1 ∷ []))) ≡ codes "0 close\nrefused 51 at 1\n"
  pub unknown_kind : listing_of (10 ∷ (11 ∷ (1 ∷ []))) ≡ codes "0 reopen\nrefused 50 at 1\n"
  -- the high byte first
  pub bill_bytes : writing (bills 2 300) ≡ 6 ∷ (2 ∷ (1 ∷ (44 ∷ [])))
  pub payout_read : read_at (5 ∷ (7 ∷ (2 ∷ (1 ∷ (0 ∷ (130 ∷ [])))))) 1 ≡ Ok (pays_out 2 1 130, 6)
  -- the bytes after its own stay; a buffer that is too short stays whole
  pub bill_written : written (bills 2 300) (9 ∷ (9 ∷ (9 ∷ (9 ∷ (9 ∷ []))))) ≡ (Ok 4, 6 ∷ (2 ∷ (1 ∷ (44 ∷ (9 ∷ [])))))
  pub bill_refused : written (bills 2 300) (9 ∷ (9 ∷ (9 ∷ []))) ≡ (Err (record { refusal = BufferTooShort; place = 0 }), 9 ∷ (9 ∷ (9 ∷ [])))
  -- a carry that is refused in a purchase, as the file tells it
  pub carry_refused : refused_line (carried_up 133 Buy (record { refusal = CannotGive; giver = 2; receiver = 0 })) ≡ codes "refused 3 at 133\n"
