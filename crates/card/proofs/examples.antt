-- Examples that meet the hypotheses of the theorems.
mod Card
