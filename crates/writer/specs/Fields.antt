-- A record's bytes as its code writes them: its header, then field by field.
use Rattle.std.specs.Prelude.{ℕ, ◌+◌, ◌≤◌, ◌≡◌, refl, List, [], ◌∷◌, length}
use Rattle.std.proofs.Common.{sym, subst, append-nil, arith}
use Rattle.lists.specs.Put.{Wrote, put-length, put_then}
use Rattle.records.specs.declared.{kinds.Record.Record}
use Rattle.records.specs.Fields.{header_length, layout_length}
use Rattle.records.specs.Layout.{number_bytes, bytes_of, bytes_count}
use Rattle.records.specs.Bytes.{widths_of, length_of, header_bytes, field_bytes, record_bytes}

width : (w n : ℕ) → length (number_bytes w n) ≡ w
width w n = let e = rw (append-nil (number_bytes w n)) at (bytes_count (w ∷ []) (n ∷ []) refl) in omega (arith, e)

-- a record's length is its header's and its fields'
parts : (x : Record) → length_of x ≡ header_length + layout_length (widths_of x)
parts (Record.Start p) = refl
parts (Record.Order e) = refl
parts (Record.Delete d) = refl
parts (Record.Auction which) = refl
parts (Record.Quote q) = refl
parts (Record.Bands s) = refl

module _ (old one new : List ℕ) (at p r : ℕ) where
  -- room for a text and so many bytes more is room for these behind the text
  room-behind : (text : List ℕ) (more : ℕ) → at + (length text + more) ≤ length old → Wrote old one at p text → p + more ≤ length one
  room-behind text more room first =
      let kept = put-length old at text (omega arith) in
      rw (first.1, kept) (omega (arith, first.0))

  -- a field, and those behind it
  pub field-then : (w n : ℕ) (ws ns : List ℕ) → at + layout_length (w ∷ ws) ≤ length old → Wrote old one at p (number_bytes w n)
      → (p + layout_length ws ≤ length one → Wrote one new p r (bytes_of ws ns)) → Wrote old new at r (bytes_of (w ∷ ws) (n ∷ ns))
  field-then w n ws ns room first later =
      let s = width w n in
      put_then old one new at p r (number_bytes w n) (bytes_of ws ns) (omega arith) first
      (later (room-behind (number_bytes w n) (layout_length ws) (omega (arith, s)) first))

  -- the header, and the fields
  pub header-then : (x : Record) → at + length_of x ≤ length old → Wrote old one at p (header_bytes x)
      → (p + layout_length (widths_of x) ≤ length one → Wrote one new p r (field_bytes x)) → Wrote old new at r (record_bytes x)
  unfolding record_bytes
  header-then x room first later =
      put_then old one new at p r (header_bytes x) (field_bytes x) (omega arith) first
      (later (room-behind (header_bytes x) (layout_length (widths_of x)) (omega (arith, parts x)) first))

-- the last field
pub field-last : (old new : List ℕ) (at r w n : ℕ) → Wrote old new at r (number_bytes w n) → Wrote old new at r (bytes_of (w ∷ []) (n ∷ []))
field-last old new at r w n last = subst (λ (t : List ℕ). Wrote old new at r t) (sym (append-nil (number_bytes w n))) last
