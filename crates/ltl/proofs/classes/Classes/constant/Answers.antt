-- All bits are set in the one mask, and none in the other.
use Rattle.std.proofs.Common.{◌≡◌, ℕ, suc, ◌-◌, ◌*◌, ◌%◌, ◌^◌, ◌≤◌, Bool, true, false, not, sym, ap, ◌∙◌, arith, pow-suc}
use Rattle.std.proofs.lemmas.Nat.{pow_pos, shl_whole}
use Rattle.model.specs.Drawn.{bits_of}
use Rattle.ltl.proofs.Bitwise.{bits_all, bits_none}
use Rattle.ltl.proofs.classes.Classes.constant.Goals as goal

-- a bit more than n, all below it set
all_set : (n : ℕ) → n ≤ 25 → 2 * 2 ^ n % 2 ^ 32 ≡ 2 ^ suc n
all_set n h = let p = pow-suc 2 n in shl_whole 2 2 n 32 (omega arith) (omega arith) ∙ omega arith

full : (n : ℕ) (b : Bool) → n ≤ 25 → b ≡ true → 2 * 2 ^ n % 2 ^ 32 - 1 ≡ bits_of (suc n) (λ k. b)
full n b h t = ap (λ (m : ℕ). m - 1) (all_set n h) ∙ sym (bits_all (suc n)) ∙ ap (λ (c : Bool). bits_of (suc n) (λ k. c)) (sym t)

-- the mask with no bit set
none : (n : ℕ) (b : Bool) → b ≡ false → ◌≡◌ {A = ℕ} 0 (bits_of (suc n) (λ k. b))
none n b f = sym (bits_none (suc n)) ∙ ap (λ (c : Bool). bits_of (suc n) (λ k. c)) (sym f)

pub overflow_sub-all : goal.overflow_sub-all
overflow_sub-all c = omega (arith, all_set c.args.n c.requires, pow_pos (suc c.args.n))

pub returns-then-value : goal.returns-then-value
returns-then-value c = record {
  sure = full c.args.n c.args.value c.requires c.if-value.true;
  lost = none c.args.n (not c.args.value) (ap not c.if-value.true);
}

pub returns-else-value : goal.returns-else-value
returns-else-value c = record {
  sure = none c.args.n c.args.value c.if-value.false;
  lost = full c.args.n (not c.args.value) c.requires (ap not c.if-value.false);
}
