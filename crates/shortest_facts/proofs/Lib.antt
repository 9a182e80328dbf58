mod Changing
mod Better
