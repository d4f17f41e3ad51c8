-- Header lines without a fault.
use Rattle.std.proofs.Common.{◌≡◌, ℕ, ◌+◌, ◌≤◌, true, false, List, [], ◌∷◌, length, take, drop, sum, nat_lt, Some, Ok, refl, sym, ◌∙◌, ap, subst, arith}
use Rattle.std.specs.Prelude.{slice_index_or}
use Rattle.std.proofs.lemmas.Bool.{le-ltb, ltb-false, or_parts, not-false}
use Rattle.std.proofs.lemmas.List.{length-map, take_all}
use Rattle.text_tokens.specs.Numbers.{number_written}
use Rattle.list_laws.proofs.FirstFaults.{none_failed, or_fault-ok}
use Rattle.gate_lines.specs.Rows.{Row}
use Rattle.circuit_file.specs.Tokens.{token, is_number, number_in, all_numbers, numbers_in}
use Rattle.circuit_file.specs.Header.{count_checks, counts_of, counts_in, width_tokens, width_checks, widths_in}
use Rattle.circuit_file.specs.Grammar.{Write}
use Rattle.circuit_file.specs.declared.header.Counts.{Counts}
use Rattle.circuit_file.proofs.PassedChecks.{some_is}
use Rattle.circuit_file.proofs.WrittenNumbers.{write_all, write_some, write_none, written_long, written_all, written_are}

two_written : (ts : List (List ℕ)) → 2 ≤ length ts → length ts ≤ 2 → all_numbers (take 2 (drop 0 ts)) ≡ true → Write ts (number_in (slice_index_or ts 0 []) ∷ number_in (slice_index_or ts 1 []) ∷ [])
two_written [] l m e = absurd (omega arith)
two_written (a ∷ []) l m e = absurd (omega arith)
two_written (a ∷ b ∷ []) l m e = write_all (a ∷ b ∷ []) e
two_written (a ∷ b ∷ c ∷ ts) l m e = absurd (omega arith)

pub record AreCounts (line : Row) (k : Counts) : Type 0 where
  pub written : Write line.tokens (k.gates ∷ k.wires ∷ [])
  pub gates : k.gates ≤ 65536
  pub wires : k.wires ≤ 131072

pub counts_grounded : (line : Row) (k : Counts) → counts_in line ≡ Ok k → AreCounts line k
unfolding counts_in count_checks
counts_grounded line k e =
    let o = or_fault-ok _ (counts_of line) k (sym e) in
    let a = none_failed _ _ _ o.0 in
    let b = none_failed _ _ _ a.1 in
    let c = none_failed _ _ _ b.1 in
    let d = none_failed _ _ _ c.1 in
    let n = or_parts (nat_lt 65536 (number_in (token line 0))) (nat_lt 131072 (number_in (token line 1))) d.0 in
    subst (λ (h : Counts). AreCounts line h) (sym o.1) (record {
      written = two_written line.tokens (ltb-false _ _ a.0) (ltb-false _ _ b.0) (not-false _ c.0);
      gates = ltb-false _ _ n.0;
      wires = ltb-false _ _ n.1;
    })

two_tokens : (line g w : ℕ) (t u : List ℕ) → number_written t ≡ Some g → number_written u ≡ Some w → nat_lt 65536 g ≡ false → nat_lt 131072 w ≡ false
    → counts_in (record { number = line; tokens = t ∷ u ∷ [] }) ≡ Ok (record { gates = g; wires = w })
unfolding counts_in count_checks
two_tokens line g w t u eg ew lg lw = simp (eg, ew, lg, lw)

pub counts_related : (line : Row) (g w : ℕ) → Write line.tokens (g ∷ w ∷ []) → g ≤ 65536 → w ≤ 131072 → counts_in line ≡ Ok (record { gates = g; wires = w })
counts_related line g w written lg lw =
    let a = write_some _ _ _ written in
    let b = write_some _ _ _ a.4 in
    let all : line.tokens ≡ a.0 ∷ b.0 ∷ [] = a.2 ∙ ap (λ ts. a.0 ∷ ts) (b.2 ∙ ap (λ ts. b.0 ∷ ts) (write_none b.1 b.4)) in
    ap (λ ts. counts_in (record { number = line.number; tokens = ts })) all ∙ two_tokens line.number g w a.0 b.0 a.3 b.3 (le-ltb _ _ lg) (le-ltb _ _ lw)

pub record AreWidths (wires : ℕ) (line : Row) (ws : List ℕ) : Type 0 where
  pub written : Write line.tokens (length ws ∷ ws)
  pub few : length ws ≤ 1024
  pub within : sum ws ≤ wires

widths_written : (ts : List (List ℕ)) (n : ℕ) → is_number (slice_index_or ts 0 []) ≡ true → n ≡ number_in (slice_index_or ts 0 []) → length ts ≡ n + 1 → all_numbers (take n (drop 1 ts)) ≡ true
    → Write ts (length (numbers_in (take n (drop 1 ts))) ∷ numbers_in (take n (drop 1 ts))) × (length (numbers_in (take n (drop 1 ts))) ≡ n)
widths_written [] n first is long all = absurd (omega arith)
widths_written (t ∷ ts) n first is long all =
    let whole : take n ts ≡ ts = take_all n ts (omega arith) in
    let same : length (numbers_in (take n ts)) ≡ n = length-map (take n ts) number_in ∙ ap length whole ∙ (let l : length ts ≡ n = omega arith in l) in
    ((some_is (number_written t) first ∙ ap Some (sym (same ∙ is)), subst (λ us. Write us (numbers_in (take n ts))) whole (write_all (take n ts) all)), same)

between : (a b : ℕ) → b ≤ a → a ≤ b → a ≡ b
between a b below above = omega (arith, below, above)

pub widths_grounded : (wires : ℕ) (line : Row) (ws : List ℕ) → widths_in wires line ≡ Ok ws → AreWidths wires line ws
unfolding widths_in width_checks
widths_grounded wires line ws e =
    let o = or_fault-ok _ (numbers_in (width_tokens line)) ws (sym e) in
    let a = none_failed _ _ _ o.0 in
    let b = none_failed _ _ _ a.1 in
    let c = none_failed _ _ _ b.1 in
    let d = none_failed _ _ _ c.1 in
    let f = none_failed _ _ _ d.1 in
    let g = none_failed _ _ _ f.1 in
    let n : ℕ = number_in (token line 0) in
    let below : n + 1 ≤ length line.tokens = ltb-false _ _ c.0 in
    let above : length line.tokens ≤ n + 1 = ltb-false _ _ d.0 in
    let long : length line.tokens ≡ n + 1 = between (length line.tokens) (n + 1) below above in
    let w = widths_written line.tokens n (not-false _ a.0) refl long (not-false _ f.0) in
    subst (λ (h : List ℕ). AreWidths wires line h) (sym o.1) (record {
      written = w.0;
      few = subst (λ k. k ≤ 1024) (sym w.1) (ltb-false _ _ b.0);
      within = ltb-false _ _ g.0;
    })

some_widths : (wires line n : ℕ) (t : List ℕ) (ts : List (List ℕ)) (ws : List ℕ) → number_written t ≡ Some n → nat_lt 1024 n ≡ false → nat_lt (length (t ∷ ts)) (n + 1) ≡ false → nat_lt (n + 1) (length (t ∷ ts)) ≡ false
    → take n ts ≡ ts → all_numbers ts ≡ true → numbers_in ts ≡ ws → nat_lt wires (sum ws) ≡ false → widths_in wires (record { number = line; tokens = t ∷ ts }) ≡ Ok ws
unfolding widths_in width_checks
some_widths wires line n t ts ws e few below above whole all are within = simp (e, few, below, above, whole, all, are, within)

pub widths_related : (wires : ℕ) (line : Row) (ws : List ℕ) → Write line.tokens (length ws ∷ ws) → length ws ≤ 1024 → sum ws ≤ wires → widths_in wires line ≡ Ok ws
widths_related wires line ws written few within =
    let a = write_some _ _ _ written in
    let long : length a.1 ≡ length ws = written_long a.1 ws a.4 in
    ap (λ ts. widths_in wires (record { number = line.number; tokens = ts })) a.2
    ∙ some_widths wires line.number (length ws) a.0 a.1 ws a.3 (le-ltb _ _ few) (le-ltb _ _ (omega (arith, long))) (le-ltb _ _ (omega (arith, long)))
    (take_all (length ws) a.1 (omega (arith, long))) (written_all a.1 ws a.4) (written_are a.1 ws a.4) (le-ltb _ _ within)
