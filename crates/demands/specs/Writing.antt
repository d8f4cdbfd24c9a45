-- Session files written (K1): what is written is read back, what is read of a good file is written back, and a refusal is given exactly when.
use Rattle.std.specs.Prelude.{ℕ, ◌+◌, ◌≤◌, ◌<◌, false, not, ◌↔◌, ◌≢◌, ◌≡◌, refl, List, T, ltb, length, take, drop, get_or}
use Rattle.std.proofs.Common.{sym, ap, ◌∙◌, arith, take_at, drop_at}
use Rattle.lists.specs.Put.{put}
use Rattle.terms.specs.declared.orders.{Entry.Entry}
use Rattle.terms.specs.Parameters.{start_with}
use Rattle.terms.specs.declared.parameters.{Start.Start, OneStep.OneStep}
use Rattle.terms.specs.declared.quote_terms.{QuoteEntry.QuoteEntry}
use Rattle.refusals.specs.Checks.{answered-number, answered-not-done}
use Rattle.refusals.specs.Exactly.{rule_of}
use Rattle.session.specs.declared.{Session.Session}
use Rattle.entries.specs.Entry.{started, entered, deleted}
use Rattle.quotation.specs.Quote.{quoted}
use Rattle.answers.specs.Auctions.{auctioned}
use Rattle.records.specs.declared.{kinds.Record.Record, kinds.Deletion.Deletion}
use Rattle.records.specs.Fields.{in_range}
use Rattle.records.specs.Bytes.{length_of, file_of, all_in_range}
use Rattle.records.specs.Walk.{walk}
use Rattle.records.specs.RoundTrip.{file-back, good-file-back}
use Rattle.writer.specs.Writing.{WriteLeaves, write_checks, write_refused, write_done, written, written_all}
use Rattle.writer.proofs.InARow.{written_in_a_row}
use Rattle.demands.specs.Answers.{ExactlyWhen, exactly, start-exactly, order-exactly, delete-exactly, auction-exactly, quote-exactly}

-- the file that a buffer holds from its front to the place reached
abbrev pub file_in : WriteLeaves → List ℕ
file_in l = take l.returned.place l.buffer

-- .. and what stands behind it
abbrev pub rest_in : WriteLeaves → List ℕ
rest_in l = drop l.returned.place l.buffer

put_front : (buffer text : List ℕ) → take (0 + length text) (put buffer 0 text) ≡ text
unfolding put
put_front buffer text = take_at text (drop (0 + length text) buffer) (0 + length text) (omega arith)

put-behind : (buffer text : List ℕ) → drop (0 + length text) (put buffer 0 text) ≡ drop (0 + length text) buffer
unfolding put
put-behind buffer text = drop_at text (drop (0 + length text) buffer) (0 + length text) (omega arith)

-- records in range, written one behind the other from the front of a buffer that is long enough: none is refused, the buffer holds the bytes of
-- their file, and every byte behind them stays
pub record AllWritten (rs : List Record) (buffer : List ℕ) : Type 0 where
  pub done : (written_all rs buffer 0).returned.answer ≡ 0
  pub file : file_in (written_all rs buffer 0) ≡ file_of rs
  pub rest : rest_in (written_all rs buffer 0) ≡ drop (written_all rs buffer 0).returned.place buffer

pub all-written : (rs : List Record) (buffer : List ℕ) → T (all_in_range rs) → length (file_of rs) ≤ length buffer → AllWritten rs buffer
all-written rs buffer h room =
    let e = written_in_a_row rs buffer 0 h (omega (arith, room)) in
    record {
      done = ap (λ (l : WriteLeaves). l.returned.answer) e;
      file = ap file_in e ∙ put_front buffer (file_of rs);
      rest = rw e (put-behind buffer (file_of rs));
    }

-- K1a: every list of records in range, written one behind the other into a buffer that is long enough, walks without a fault and reads as that very list.
pub written-reads-back : (rs : List Record) (buffer : List ℕ) → T (all_in_range rs) → length (file_of rs) ≤ length buffer
    → AllWritten rs buffer × (walk (file_in (written_all rs buffer 0)) ≡ record { records = rs; faulty = false })
written-reads-back rs buffer h room = let w = all-written rs buffer h room in (w, ap walk w.file ∙ file-back rs h)

-- K1b: the records read from a good file, written one behind the other, are that file, byte for byte.
pub read-writes-back : (file buffer : List ℕ) → ((i : ℕ) → get_or file i 0 < 256) → (walk file).faulty ≡ false → T (all_in_range (walk file).records) → length file ≤ length buffer
    → AllWritten (walk file).records buffer × (file_in (written_all (walk file).records buffer 0) ≡ file)
read-writes-back file buffer bytes good h room =
    let same = good-file-back file bytes good h in
    let w = all-written (walk file).records buffer h (rw same room) in
    (w, w.file ∙ same)

-- K1c: 1 exactly when a field is out of its range, 12 exactly when none is and the buffer ends before the record would; what the call returns and leaves is
-- determined, and a refusal leaves the buffer and the place as they were.
pub record WritesExactly (r : Record) (buffer : List ℕ) (place : ℕ) : Type 0 where
  pub when : ExactlyWhen (written r buffer place).returned.answer (write_checks r (length buffer) place)
  pub rule-1 : rule_of 1 (write_checks r (length buffer) place) ≡ not (in_range r)
  pub rule-12 : rule_of 12 (write_checks r (length buffer) place) ≡ ltb (length buffer) (place + length_of r)
  pub one_answer : (l m : WriteLeaves) → l ≡ written r buffer place → m ≡ written r buffer place → l ≡ m
  pub changes-nothing : (written r buffer place).returned.answer ≢ 0 → written r buffer place ≡ write_refused buffer place (written r buffer place).returned.answer

pub writes-exactly : (r : Record) (buffer : List ℕ) (place : ℕ) → WritesExactly r buffer place
unfolding written
writes-exactly r buffer place =
    let checks = write_checks r (length buffer) place in
    record {
      when = exactly checks tt _ (answered-number checks (write_refused buffer place) (write_done r buffer place) (λ (l : WriteLeaves). l.returned.answer) (λ n. refl) refl);
      rule-1 = refl;
      rule-12 = refl;
      one_answer = λ l m h k. h ∙ sym k;
      changes-nothing = answered-not-done checks (write_refused buffer place) (write_done r buffer place) (λ (l : WriteLeaves). l.returned.answer) (λ n. refl) refl;
    }

-- K1d: "in range" is the calls' own: a record is in range exactly when the call on it does not answer 1, whatever the session and the lent list.
pub record RangeOfTheCalls (s : Session) : Type 0 where
  pub of-start : (x : OneStep) → ((started s (start_with x)).answer ≡ 1) ↔ T (not (in_range (Record.Start x)))
  pub of-order : (e : Entry) → ((entered s e).answer ≡ 1) ↔ T (not (in_range (Record.Order e)))
  pub of-delete : (d : Deletion) → ((deleted s d.number d.member).answer ≡ 1) ↔ T (not (in_range (Record.Delete d)))
  pub of-auction : (which : ℕ) (list : List ℕ) → ((auctioned s which list).returned.answer ≡ 1) ↔ T (not (in_range (Record.Auction which)))
  pub of-quote : (q : QuoteEntry) → ((quoted s q).answer ≡ 1) ↔ T (not (in_range (Record.Quote q)))
  pub of-bands : (x : Start) → ((started s x).answer ≡ 1) ↔ T (not (in_range (Record.Bands x)))

-- 1 is the first check, so that no earlier one can hit
first : {A B : Type 0} → A ↔ (B × Unit {0}) → A ↔ B
first (to, from) = ((λ a. (to a).0), (λ b. from (b, tt)))

pub range-of-the-calls : (s : Session) → RangeOfTheCalls s
range-of-the-calls s = record {
  of-start = λ x. first ((start-exactly s (start_with x)).refused 1 (omega arith));
  of-order = λ e. first ((order-exactly s e).refused 1 (omega arith));
  of-delete = λ d. first ((delete-exactly s d.number d.member).refused 1 (omega arith));
  of-auction = λ which list. first ((auction-exactly s which list).refused 1 (omega arith));
  of-quote = λ q. first ((quote-exactly s q).refused 1 (omega arith));
  of-bands = λ x. first ((start-exactly s x).refused 1 (omega arith));
}
