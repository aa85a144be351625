-- A text is read exactly if it is the written form of entries; else the first bad line is named.
use mathlib.Core.Path.{◌≡◌, refl, sym, ap, ap₂, subst, ◌∙◌}
use mathlib.Core.Logic.{◌↔◌, ◌⊎◌, inl, inr, ⊎_elim}
use mathlib.Core.Bool.{true}
use mathlib.Core.Option.{Option, none, some, none-ne-some}
use mathlib.Core.List.{List, [], ◌∷◌, ◌++◌, map, append_assoc, append-nil, nil≢cons, head-eq_of_cons-eq, tail-eq_of_cons-eq}
use Prim.Native.Nat.{ℕ, suc, ◌+◌, ◌≤◌, ◌<◌}
use native.Mathlib.Omega.{arith}
use lib.Dec.{leb}
use lib.IntN.{ℤ}
use lib.ListN.{length}
use borrow.Author.Tests.{leb-true, leb-false, le-leb, lt-leb}
use Rattle.granules.proofs.Tests.{true-or-false}
use Rattle.table_text.specs.Numerals.{numeral}
use Rattle.table_text.specs.Words.{space, line_feed, joined_by}
use Rattle.table_text.specs.Text.{text_limit, entry_length, all_fit, Entries, entry_line, written, joined, TextOf, FirstBadLine, BadAt}
use Rattle.table_text.specs.Parse.{split, Reading, entry_of, entry_before, read_lines, parse}
use Rattle.table_text.specs.Parse.Reading.{bad, table}
use Rattle.table_text.proofs.Pieces.{Without, EachWithout, FirstPiece, first_piece, split-nil, split-joined, split-without, split-seam, split-last, joined-split, each-joined}
use Rattle.table_text.proofs.Entries.{LineOf, entry-back, entry-line, numerals-without}

-- ---- the clauses of parse

table-inj : {t u : List ℤ} → table t ≡ table u → t ≡ u
table-inj e = cc

bad-inj : {k m : ℕ} → bad k ≡ bad m → k ≡ m
bad-inj e = cc

bad≢table : {k : ℕ} {t : List ℤ} → bad k ≡ table t → ⊥
bad≢table e = let z : ◌≡◌ {A = ℕ} 0 1 = cc in omega arith

pub next-line : (k : ℕ) (l m : List ℕ) (ls : List (List ℕ)) → read_lines k (l ∷ m ∷ ls) ≡ entry_before (entry_of l) k (read_lines (suc k) (m ∷ ls))
unfolding read_lines
next-line k l m ls = refl

pub text-end : (k : ℕ) → read_lines k ([] ∷ []) ≡ table []
unfolding read_lines
text-end k = refl

pub text-cut : (k b : ℕ) (w : List ℕ) → read_lines k ((b ∷ w) ∷ []) ≡ bad k
unfolding read_lines
text-cut k b w = refl

no_lines : (k : ℕ) → read_lines k [] ≡ table []
unfolding read_lines
no_lines k = refl

-- ---- what is read was written

-- the pieces of a text, joined, are the written form of entries with the table t
pub record Written (s : List ℕ) (t : List ℤ) : Type 0 where
  pub lines : List (List ℤ)
  pub entries : Entries lines
  pub text : s ≡ written lines
  pub numbers : t ≡ joined lines

nothing_written : {t : List ℤ} → table [] ≡ table t → Written [] t
nothing_written e = record { lines = []; entries = tt; text = refl; numbers = sym (table-inj e) }

one_more : {l s : List ℕ} {e t : List ℤ} → LineOf l e → Written s t → Written (l ++ (line_feed ∷ s)) (e ++ t)
one_more {l} {s} {e} {t} h w = record {
  lines = e ∷ w.lines;
  entries = (h.six, h.fit, w.entries);
  text = ap (λ (m : List ℕ). m ++ (line_feed ∷ s)) h.text ∙ ap (λ (m : List ℕ). joined_by space (map numeral e) ++ (line_feed ∷ m)) w.text ∙ sym (append_assoc (joined_by space (map numeral e)) (line_feed ∷ []) (written w.lines));
  numbers = ap (λ (u : List ℤ). e ++ u) w.numbers;
}

lines-back : (k : ℕ) (ps : List (List ℕ)) (t : List ℤ) → read_lines k ps ≡ table t → Written (joined_by line_feed ps) t
lines-back k [] t e = nothing_written (sym (no_lines k) ∙ e)
lines-back k ([] ∷ []) t e = nothing_written (sym (text-end k) ∙ e)
lines-back k ((b ∷ w) ∷ []) t e = absurd (bad≢table (sym (text-cut k b w) ∙ e))
lines-back k (l ∷ m ∷ ls) t e = go (entry_of l) refl (read_lines (suc k) (m ∷ ls)) (λ u q. lines-back (suc k) (m ∷ ls) u q) (sym (next-line k l m ls) ∙ e)
  where
    go : (o : Option (List ℤ)) → entry_of l ≡ o → (r : Reading) → ((u : List ℤ) → r ≡ table u → Written (joined_by line_feed (m ∷ ls)) u) → entry_before o k r ≡ table t → Written (joined_by line_feed (l ∷ m ∷ ls)) t
    go none p r q e = absurd (bad≢table e)
    go (some f) p (bad i) q e = absurd (bad≢table e)
    go (some f) p (table u) q e = subst (Written (l ++ (line_feed ∷ joined_by line_feed (m ∷ ls)))) (table-inj e) (one_more (entry-back l f p) (q u refl))

pub parse-short : (s : List ℕ) → length s ≤ text_limit → parse s ≡ read_lines 0 (split line_feed s)
unfolding parse
parse-short s h = rw (le-leb (length s) text_limit h)

pub parse-long : (s : List ℕ) → text_limit < length s → parse s ≡ bad 0
unfolding parse
parse-long s h = rw (lt-leb (length s) text_limit h)

short-or-long : (s : List ℕ) → (length s ≤ text_limit) ⊎ (text_limit < length s)
short-or-long s = ⊎_elim (λ e. inl (leb-true _ _ e)) (λ e. inr (leb-false _ _ e)) (true-or-false (leb (length s) text_limit))

-- a text that is read is that of entries, and its table is theirs
pub text-back : (s : List ℕ) (t : List ℤ) → parse s ≡ table t → (es : List (List ℤ)) × TextOf es s × (t ≡ joined es)
text-back s t e = ⊎_elim short long (short-or-long s)
  where
    short : length s ≤ text_limit → (es : List (List ℤ)) × TextOf es s × (t ≡ joined es)
    short h =
        let w = lines-back 0 (split line_feed s) t (sym (parse-short s h) ∙ e) in
        (w.lines, record { entries = w.entries; text = sym (split-joined line_feed s) ∙ w.text; short = h }, w.numbers)

    long : text_limit < length s → (es : List (List ℤ)) × TextOf es s × (t ≡ joined es)
    long h = absurd (bad≢table (sym (parse-long s h) ∙ e))

-- ---- what is written is read

-- the entries before what is read behind them
abbrev pub before : List (List ℤ) → Reading → Reading
before [] r = r
before (e ∷ es) r = entry_before (some e) 0 (before es r)

entry_before-any : (e : List ℤ) (k m : ℕ) (r : Reading) → entry_before (some e) k r ≡ entry_before (some e) m r
entry_before-any e k m (bad i) = refl
entry_before-any e k m (table t) = refl

line-without : (e : List ℤ) → Without line_feed (joined_by space (map numeral e))
line-without e = each-joined (λ c. c ≡ line_feed → ⊥) space (λ e. omega arith) (map numeral e) (numerals-without line_feed (omega arith) e)

lines-read : (k : ℕ) (es : List (List ℤ)) (rest : List ℕ) → Entries es → read_lines k (split line_feed (written es ++ rest)) ≡ before es (read_lines (length es + k) (split line_feed rest))
lines-read k [] rest h = ap (λ (n : ℕ). read_lines n (split line_feed rest)) (let e : k ≡ 0 + k = omega arith in e)
lines-read k (e ∷ es) rest h =
    ap (λ (s : List ℕ). read_lines k (split line_feed s)) (append_assoc (entry_line e) (written es) rest ∙ append_assoc J (line_feed ∷ []) more)
    ∙ ap (read_lines k) (split-seam line_feed J more (line-without e) ∙ ap (λ (l : List (List ℕ)). J ∷ l) f.pieces)
    ∙ next-line k J f.piece f.others
    ∙ ap₂ (λ (o : Option (List ℤ)) (l : List (List ℕ)). entry_before o k (read_lines (suc k) l)) (entry-line e h.0 h.1) (sym f.pieces)
    ∙ ap (entry_before (some e) k) (lines-read (suc k) es rest h.2)
    ∙ entry_before-any e k 0 (before es (read_lines (length es + suc k) (split line_feed rest)))
    ∙ ap (λ (n : ℕ). entry_before (some e) 0 (before es (read_lines n (split line_feed rest)))) (let q : length es + suc k ≡ suc (length es) + k = omega arith in q)
  where
    J : List ℕ
    J = joined_by space (map numeral e)

    more : List ℕ
    more = written es ++ rest

    f : FirstPiece line_feed more
    f = first_piece line_feed more

before-table : (es : List (List ℤ)) (t : List ℤ) → before es (table t) ≡ table (joined es ++ t)
before-table [] t = refl
before-table (e ∷ es) t = ap (entry_before (some e) 0) (before-table es t) ∙ ap {B = Reading} table (sym (append_assoc e (joined es) t))

-- the text of entries is read as their table
pub text-read : (es : List (List ℤ)) (s : List ℕ) → TextOf es s → parse s ≡ table (joined es)
text-read es s h =
    parse-short s h.short
    ∙ ap (λ (r : List ℕ). read_lines 0 (split line_feed r)) (h.text ∙ sym (append-nil (written es)))
    ∙ lines-read 0 es [] h.entries
    ∙ ap (before es) (ap (read_lines (length es + 0)) (split-nil line_feed) ∙ text-end (length es + 0))
    ∙ before-table es []
    ∙ ap {B = Reading} table (append-nil (joined es))

-- parse and written are inverse: a text is read exactly if it is that of some entries, and then as their table
pub text-iff : (s : List ℕ) (t : List ℤ) → (parse s ≡ table t) ↔ ((es : List (List ℤ)) × TextOf es s × (t ≡ joined es))
text-iff s t = (text-back s t, λ h. text-read h.0 s h.1 ∙ ap {B = Reading} table (sym h.2))

-- ---- the first bad line

entry-starts : (e : List ℤ) (more : List ℕ) → split line_feed (entry_line e ++ more) ≡ joined_by space (map numeral e) ∷ split line_feed more
entry-starts e more =
    ap (split line_feed) (append_assoc (joined_by space (map numeral e)) (line_feed ∷ []) more)
    ∙ split-seam line_feed (joined_by space (map numeral e)) more (line-without e)

-- a line that is no entry is at the start of no text
not_entry : (l : List ℕ) (ls : List (List ℕ)) → EachWithout line_feed (l ∷ ls) → entry_of l ≡ none → (e : List ℤ) (more : List ℕ) → length e ≡ entry_length → all_fit e ≡ true → ¬ (joined_by line_feed (l ∷ ls) ≡ entry_line e ++ more)
not_entry l ls w o e more six fit q =
    let same : l ∷ ls ≡ joined_by space (map numeral e) ∷ split line_feed more = sym (joined-split line_feed l ls w) ∙ ap (split line_feed) q ∙ entry-starts e more in
    none-ne-some e (sym o ∙ ap entry_of (head-eq_of_cons-eq same) ∙ entry-line e six fit)

-- nor is a last line without its line feed
not-ended : (l : List ℕ) → Without line_feed l → (e : List ℤ) (more : List ℕ) → ¬ (l ≡ entry_line e ++ more)
not-ended l w e more q =
    let same : l ∷ [] ≡ joined_by space (map numeral e) ∷ split line_feed more = sym (split-last line_feed l w) ∙ ap (split line_feed) q ∙ entry-starts e more in
    nil≢cons (tail-eq_of_cons-eq same ∙ (first_piece line_feed more).pieces)

-- the first bad line of s, when lines are counted from k, is m
abbrev BadFrom : ℕ → List ℕ → ℕ → Type 0
BadFrom k s m = (j : ℕ) × (k + j ≡ m) × FirstBadLine j s

bad-here : {k m : ℕ} (s : List ℕ) → bad k ≡ bad m → ¬ (s ≡ []) → ((e : List ℤ) (more : List ℕ) → length e ≡ entry_length → all_fit e ≡ true → ¬ (s ≡ entry_line e ++ more)) → BadFrom k s m
bad-here {k} {m} s q n w =
    let i : k ≡ m = bad-inj q in
    (0, omega arith, record { before = []; rest = s; entries = tt; count = refl; text = refl; some-rest = n; bad = w })

bad-later : (k m : ℕ) (l s : List ℕ) (e : List ℤ) → LineOf l e → BadFrom (suc k) s m → BadFrom k (l ++ (line_feed ∷ s)) m
bad-later k m l s e h (j, q, f) = (
  suc j,
  omega arith,
  record {
    before = e ∷ f.before;
    rest = f.rest;
    entries = (h.six, h.fit, f.entries);
    count = ap suc f.count;
    text = ap (λ (v : List ℕ). v ++ (line_feed ∷ s)) h.text ∙ ap (λ (v : List ℕ). J ++ (line_feed ∷ v)) f.text ∙ sym (append_assoc (entry_line e) (written f.before) f.rest ∙ append_assoc J (line_feed ∷ []) (written f.before ++ f.rest));
    some-rest = f.some-rest;
    bad = f.bad;
  },
)
  where
    J : List ℕ
    J = joined_by space (map numeral e)

joined-some : (l m : List ℕ) (ls : List (List ℕ)) → ¬ (joined_by line_feed (l ∷ m ∷ ls) ≡ [])
joined-some [] m ls q = nil≢cons (sym q)
joined-some (b ∷ l) m ls q = nil≢cons (sym q)

lines-bad : (k m : ℕ) (ps : List (List ℕ)) → EachWithout line_feed ps → read_lines k ps ≡ bad m → BadFrom k (joined_by line_feed ps) m
lines-bad k m [] w e = absurd (bad≢table (sym e ∙ no_lines k))
lines-bad k m ([] ∷ []) w e = absurd (bad≢table (sym e ∙ text-end k))
lines-bad k m ((b ∷ v) ∷ []) w e = bad-here (b ∷ v) (sym (text-cut k b v) ∙ e) (λ q. nil≢cons (sym q)) (λ f more six fit. not-ended (b ∷ v) w.0 f more)
lines-bad k m (l ∷ n ∷ ls) w e = go (entry_of l) refl (read_lines (suc k) (n ∷ ls)) (λ q. lines-bad (suc k) m (n ∷ ls) w.1 q) (sym (next-line k l n ls) ∙ e)
  where
    go : (o : Option (List ℤ)) → entry_of l ≡ o → (r : Reading) → (r ≡ bad m → BadFrom (suc k) (joined_by line_feed (n ∷ ls)) m) → entry_before o k r ≡ bad m → BadFrom k (joined_by line_feed (l ∷ n ∷ ls)) m
    go none p r q e = bad-here (joined_by line_feed (l ∷ n ∷ ls)) e (joined-some l n ls) (not_entry l (n ∷ ls) w p)
    go (some f) p (bad i) q e = bad-later k m l (joined_by line_feed (n ∷ ls)) f (entry-back l f p) (q e)
    go (some f) p (table u) q e = absurd (bad≢table (sym e))

pub bad-back : (s : List ℕ) (k : ℕ) → parse s ≡ bad k → BadAt k s
bad-back s k e = ⊎_elim short long (short-or-long s)
  where
    short : length s ≤ text_limit → BadAt k s
    short h =
        let f = lines-bad 0 k (split line_feed s) (split-without line_feed s) (sym (parse-short s h) ∙ e) in
        inr (h, subst (λ (r : List ℕ). FirstBadLine k r) (split-joined line_feed s) (subst (λ (j : ℕ). FirstBadLine j (joined_by line_feed (split line_feed s))) (let q : f.0 ≡ k = omega (arith, f.1) in q) f.2))

    long : text_limit < length s → BadAt k s
    long h = inl (h, bad-inj (sym e ∙ parse-long s h))

rest-bad : (k : ℕ) (s : List ℕ) → ¬ (s ≡ []) → ((e : List ℤ) (more : List ℕ) → length e ≡ entry_length → all_fit e ≡ true → ¬ (s ≡ entry_line e ++ more)) → read_lines k (split line_feed s) ≡ bad k
rest-bad k s n w = go (split line_feed s) (split-joined line_feed s)
  where
    go : (ps : List (List ℕ)) → joined_by line_feed ps ≡ s → read_lines k ps ≡ bad k
    go [] q = absurd (n (sym q))
    go ([] ∷ []) q = absurd (n (sym q))
    go ((b ∷ v) ∷ []) q = text-cut k b v
    go (l ∷ m ∷ ls) q = next-line k l m ls ∙ judged (entry_of l) refl
      where
        judged : (o : Option (List ℤ)) → entry_of l ≡ o → entry_before o k (read_lines (suc k) (m ∷ ls)) ≡ bad k
        judged none p = refl
        judged (some e) p =
            let h = entry-back l e p in
            absurd (w e (joined_by line_feed (m ∷ ls)) h.six h.fit
            (sym q ∙ ap (λ (v : List ℕ). v ++ (line_feed ∷ joined_by line_feed (m ∷ ls))) h.text ∙ sym (append_assoc (joined_by space (map numeral e)) (line_feed ∷ []) (joined_by line_feed (m ∷ ls)))))

before-bad : (es : List (List ℤ)) (k : ℕ) → before es (bad k) ≡ bad k
before-bad [] k = refl
before-bad (e ∷ es) k = ap (entry_before (some e) 0) (before-bad es k)

pub bad-read : (s : List ℕ) (k : ℕ) → BadAt k s → parse s ≡ bad k
bad-read s k (inl (h, z)) = parse-long s h ∙ ap bad (sym z)
bad-read s k (inr (h, f)) =
    parse-short s h
    ∙ ap (λ (r : List ℕ). read_lines 0 (split line_feed r)) f.text
    ∙ lines-read 0 f.before f.rest f.entries
    ∙ ap (before f.before) (rest-bad (length f.before + 0) f.rest f.some-rest f.bad)
    ∙ before-bad f.before (length f.before + 0)
    ∙ ap bad (let q : length f.before + 0 ≡ k = omega (arith, f.count) in q)

pub bad-iff : (s : List ℕ) (k : ℕ) → (parse s ≡ bad k) ↔ BadAt k s
bad-iff s k = (bad-back s k, bad-read s k)
