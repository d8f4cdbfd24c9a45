-- Worked examples: lines of 01 "Session file" and of 02 K2, byte by byte.
use Rattle.std.specs.Prelude.{◌≡◌, refl, [], ◌∷◌}
use Rattle.lines.specs.declared.{words.Word.Word}
use Rattle.text.specs.Text.{digits, decimal}
use Rattle.lines.specs.Line.{line_of, numbered_line, done_line, quote_line, trade_line, fault_line, end_line}

zero-printed : decimal 0 ≡ 48 ∷ []
unfolding digits
zero-printed = refl

number-printed : decimal 100_200 ≡ 49 ∷ 48 ∷ 48 ∷ 50 ∷ 48 ∷ 48 ∷ []
unfolding digits
number-printed = refl

-- 2 order 0 1
order-printed : line_of 2 (done_line Word.Order 1) ≡ 50 ∷ 32 ∷ 111 ∷ 114 ∷ 100 ∷ 101 ∷ 114 ∷ 32 ∷ 48 ∷ 32 ∷ 49 ∷ 10 ∷ []
unfolding digits
order-printed = refl

-- 3 delete 11
delete-printed : line_of 3 (numbered_line Word.Delete 11 0) ≡ 51 ∷ 32 ∷ 100 ∷ 101 ∷ 108 ∷ 101 ∷ 116 ∷ 101 ∷ 32 ∷ 49 ∷ 49 ∷ 10 ∷ []
unfolding digits
delete-printed = refl

-- 4 quote 0 2 3
quote-printed : line_of 4 (quote_line 2 3) ≡ 52 ∷ 32 ∷ 113 ∷ 117 ∷ 111 ∷ 116 ∷ 101 ∷ 32 ∷ 48 ∷ 32 ∷ 50 ∷ 32 ∷ 51 ∷ 10 ∷ []
unfolding digits
quote-printed = refl

-- 5 quote 4 0 0
refused-quote-printed : line_of 5 (numbered_line Word.Quote 4 0) ≡ 53 ∷ 32 ∷ 113 ∷ 117 ∷ 111 ∷ 116 ∷ 101 ∷ 32 ∷ 52 ∷ 32 ∷ 48 ∷ 32 ∷ 48 ∷ 10 ∷ []
unfolding digits
refused-quote-printed = refl

-- trade 2 4 50
trade-printed : trade_line (record { buy = 2; sell = 4; quantity = 50 }) ≡ 116 ∷ 114 ∷ 97 ∷ 100 ∷ 101 ∷ 32 ∷ 50 ∷ 32 ∷ 52 ∷ 32 ∷ 53 ∷ 48 ∷ 10 ∷ []
unfolding digits
trade-printed = refl

-- 7 fault 1
fault-printed : fault_line 7 ≡ 55 ∷ 32 ∷ 102 ∷ 97 ∷ 117 ∷ 108 ∷ 116 ∷ 32 ∷ 49 ∷ 10 ∷ []
unfolding digits
fault-printed = refl

-- end 6
end-printed : end_line 6 ≡ 101 ∷ 110 ∷ 100 ∷ 32 ∷ 54 ∷ 10 ∷ []
unfolding digits
end-printed = refl
