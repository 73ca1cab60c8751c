-- Each series has one record.
use Rattle.std.proofs.Common.{◌≡◌, ◌≢◌, ℕ, ◌+◌, ◌-◌, ◌*◌, ◌<◌, ◌≤◌, ◌↔◌, arith}
use Rattle.catalog_page.specs.Places.{page_of, number_of, records_of}

pub one_series : (s t : ℕ) → page_of s ≡ page_of t → number_of s ≡ number_of t → s ≡ t
unfolding page_of number_of
one_series s t page number = omega (arith, page, number)

pub every_record : (p i : ℕ) → 1 ≤ p → i < 32 → ((s : ℕ) × (page_of s ≡ p) × (number_of s ≡ i))
unfolding page_of number_of
every_record p i low few = (32 * (p - 1) + i, omega (arith, low, few), omega (arith, low, few))

pub in_use : (s n : ℕ) → (s < n) ↔ (number_of s < records_of (page_of s) n)
unfolding page_of number_of records_of
in_use s n = (λ low. omega (arith, low), λ low. omega (arith, low))

pub next_record : (n : ℕ) → (records_of (page_of n) n ≡ number_of n) × (records_of (page_of n) (n + 1) ≡ number_of n + 1)
unfolding page_of number_of records_of
next_record n = (omega arith, omega arith)

pub other_pages : (n p : ℕ) → 1 ≤ p → p ≢ page_of n → records_of p (n + 1) ≡ records_of p n
unfolding page_of number_of records_of
other_pages n p low other = grind arith
