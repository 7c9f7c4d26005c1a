mod AsAsked
mod Fitting
mod Keeping
mod Places
mod WholeSides
